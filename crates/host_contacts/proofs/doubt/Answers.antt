-- `host_contacts::doubt` meets its contract. Assumes nothing.
use mathlib.Core.Path.{sym, ◌∙◌}
use borrow.Author.Tests.{not-true, not-false}
use Rattle.host_contacts.proofs.Hosting.{doubt-off, doubt-on}
use borrow.Author.Rules.{rules}
use Rattle.host_contacts.proofs.doubt.Goals as goal

pub returns-then-not-own_fits : goal.returns-then-not-own_fits
returns-then-not-own_fits c = let a = c.args in doubt-off a.me a.contacts.now a.id.now _ (sym c.own_fits.ensures ∙ c.if-not-own_fits.true) c.refusal_of_box.ensures

pub returns : goal.returns
returns c = let a = c.args in doubt-on a.me a.contacts.now a.id.now _ _ (sym c.own_fits.ensures ∙ c.if-not-own_fits.false) c.doubt.ensures
