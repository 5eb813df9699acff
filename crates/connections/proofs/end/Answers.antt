-- `connections::end` meets its contract. Assumes nothing.
use mathlib.Core.Path.{sym, ◌∙◌}
use borrow.Author.Tests.{not-true, not-false}
use Rattle.connections.proofs.Opening.{end_refused, end-done}
use borrow.Author.Rules.{rules}
use Rattle.connections.proofs.end.Goals as goal

pub returns-then-not-conn_form : goal.returns-then-not-conn_form
returns-then-not-conn_form c = let a = c.args in end_refused a.me a.conn (sym c.conn_form.ensures ∙ c.if-not-conn_form.true)

pub returns : goal.returns
returns c = let a = c.args in end-done a.me a.conn _ _ (sym c.conn_form.ensures ∙ c.if-not-conn_form.false) c.end-e.ensures c.with_framing.ensures
