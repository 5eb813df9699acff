-- `connections::conn_form` meets its contract. Assumes nothing.
use mathlib.Core.Path.{sym, ◌∙◌}
use borrow.Author.Tests.{not-true, not-false}
use Rattle.connections.proofs.Forms.{conn-shut, conn-peer, conn-ours, conn-rest}
use borrow.Author.Rules.{rules}
use Rattle.connections.proofs.conn_form.Goals as goal

pub returns-then-is_shut : goal.returns-then-is_shut
returns-then-is_shut c = let a = c.args in conn-shut a.me a.conn (sym c.is_shut.ensures ∙ c.if-is_shut.true)

pub returns-then-not-own_fits : goal.returns-then-not-own_fits
returns-then-not-own_fits c = let a = c.args in conn-peer a.me a.conn (sym c.is_shut.ensures ∙ c.if-is_shut.false) (sym c.own_fits.ensures ∙ c.if-not-own_fits.true)

pub returns-then-same_bytes : goal.returns-then-same_bytes
returns-then-same_bytes c = let a = c.args in conn-ours a.me a.conn (sym c.is_shut.ensures ∙ c.if-is_shut.false) (sym c.own_fits.ensures ∙ c.if-not-own_fits.false) (sym c.same_bytes.ensures ∙ c.if-same_bytes.true)

pub returns : goal.returns
returns c = let a = c.args in conn-rest a.me a.conn _ (sym c.is_shut.ensures ∙ c.if-is_shut.false) (sym c.own_fits.ensures ∙ c.if-not-own_fits.false) (sym c.same_bytes.ensures ∙ c.if-same_bytes.false) c.in_form.ensures
