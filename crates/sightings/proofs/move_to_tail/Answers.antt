-- `sightings::move_to_tail` meets its contract. Assumes nothing.
use native.Mathlib.Omega.{arith}
use mathlib.Core.Path.{ap, ◌∙◌}
use lib.ListN.{length, length-set}
use Rattle.contact_table.proofs.Cuts.{slot_whole}
use Rattle.contact_order.proofs.Slots.{few}
use Rattle.contact_order.proofs.Closing.{leave-length}
use Rattle.sightings.proofs.Moves.{move-done}
use Rattle.sightings.proofs.move_to_tail.Goals as goal

pub overflow_mul-at : goal.overflow_mul-at
overflow_mul-at c = omega (arith, few c.args.table.now c.args.i c.requires)

pub bounds-table-at : goal.bounds-table-at
bounds-table-at c = omega (arith, slot_whole c.args.table.now c.args.i c.requires, ap length c.leave_order.ensures ∙ leave-length c.args.table.now c.args.ours.now c.args.i)

pub overflow_add-table : goal.overflow_add-table
overflow_add-table c = omega (arith, few c.args.table.now c.args.i c.requires)

pub bounds-table-at-2 : goal.bounds-table-at-2
bounds-table-at-2 c = simp length-set (omega (arith, slot_whole c.args.table.now c.args.i c.requires, ap length c.leave_order.ensures ∙ leave-length c.args.table.now c.args.ours.now c.args.i))

pub returns : goal.returns
returns c = move-done c.args.table.now c.args.ours.now c.args.i c.requires _ _ _ c.bucket_at-b.ensures c.tail_of-tail.ensures c.leave_order.ensures
