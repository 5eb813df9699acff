-- `changes_nothing` meets its contract. Assumes nothing.
use Rattle.host_state.proofs.Handing.{changes-low, changes-high}
use borrow.Author.Rules.{rules}
use Rattle.host_state.proofs.changes_nothing.Goals as goal

pub returns-then-n-le2 : goal.returns-then-n-le2
returns-then-n-le2 c = changes-low _ _ c.number-n.ensures c.if-n-le2.true

pub returns : goal.returns
returns c = changes-high _ _ c.number-n.ensures c.if-n-le2.false
