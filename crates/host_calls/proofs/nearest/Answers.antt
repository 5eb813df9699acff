-- `host_calls::nearest` meets its contract. Assumes nothing.
use mathlib.Core.Path.{sym, ◌∙◌}
use borrow.Author.Tests.{not-true, not-false}
use Rattle.host_calls.proofs.Hosting.{near-broken, near_none, near-long, near-own, near-found}
use borrow.Author.Rules.{rules}
use Rattle.host_calls.proofs.nearest.Goals as goal

pub returns-then-not-in_form : goal.returns-then-not-in_form
returns-then-not-in_form c = let a = c.args in c.none_near.ensures ∙ near-broken a.me a.contacts.now a.key.now (sym c.in_form.ensures ∙ c.if-not-in_form.true)

pub returns-then-key-eq0 : goal.returns-then-key-eq0
returns-then-key-eq0 c = let a = c.args in c.none_near-then-key-eq0.ensures ∙ near_none a.me a.contacts.now a.key.now (sym c.in_form.ensures ∙ c.if-not-in_form.false) c.if-key-eq0.true

pub returns-then-key-gt-MOST_KEY : goal.returns-then-key-gt-MOST_KEY
returns-then-key-gt-MOST_KEY c = let a = c.args in c.none_near-then-key-gt-MOST_KEY.ensures ∙ near-long a.me a.contacts.now a.key.now (sym c.in_form.ensures ∙ c.if-not-in_form.false) c.if-key-gt-MOST_KEY.true

pub returns-then-not-own_fits : goal.returns-then-not-own_fits
returns-then-not-own_fits c = let a = c.args in c.none_near-then-not-own_fits.ensures ∙ near-own a.me a.contacts.now a.key.now (sym c.in_form.ensures ∙ c.if-not-in_form.false) c.if-key-eq0.false c.if-key-gt-MOST_KEY.false (sym c.own_fits.ensures ∙ c.if-not-own_fits.true)

pub returns : goal.returns
returns c = let a = c.args in near-found a.me a.contacts.now a.key.now (sym c.in_form.ensures ∙ c.if-not-in_form.false) c.if-key-eq0.false c.if-key-gt-MOST_KEY.false _ _ (sym c.own_fits.ensures ∙ c.if-not-own_fits.false) c.place_of-target.ensures c.nearest-closest.ensures
