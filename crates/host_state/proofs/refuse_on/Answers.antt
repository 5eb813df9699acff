-- `refuse_on` meets its contract. Assumes nothing.
use Rattle.host_state.proofs.Handing.{framing-left, framing-written}
use borrow.Author.Rules.{rules}
use Rattle.host_state.proofs.refuse_on.Goals as goal

pub returns-then-changes_nothing : goal.returns-then-changes_nothing
returns-then-changes_nothing c = (c.code_of.ensures, framing-left _ c.args.f c.args.r _ c.changes_nothing.ensures c.if-changes_nothing.true)

pub returns : goal.returns
returns c = (c.code_of-2.ensures, framing-written _ c.args.f c.args.r _ c.changes_nothing.ensures _ c.if-changes_nothing.false c.put_framing.ensures)
