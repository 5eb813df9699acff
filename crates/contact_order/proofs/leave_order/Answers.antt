-- `contact_order::leave_order` meets its contract. Assumes nothing.
use Rattle.contact_order.proofs.Closing.{leave-done}
use borrow.Author.Rules.{rules}
use Rattle.contact_order.proofs.leave_order.Goals as goal

pub returns : goal.returns
returns c = leave-done c.args.table.now c.args.ours.now c.args.i _ _ _ c.bucket_at-b.ensures c.mark_of-m.ensures c.close_up.ensures
