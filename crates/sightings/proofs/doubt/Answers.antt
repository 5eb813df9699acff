-- `sightings::doubt` meets its contract. Assumes nothing.
use native.Mathlib.Omega.{arith}
use Rattle.contact_table.proofs.Cuts.{slot_whole}
use Rattle.contact_order.proofs.Slots.{few}
use Rattle.sightings.proofs.Moves.{doubt-done}
use Rattle.sightings.proofs.Calls.{doubt-in, doubt-held, doubt-none}
use Rattle.sightings.proofs.doubt.Goals as goal

pub returns-then-slots-doubtful : goal.returns-then-slots-doubtful
returns-then-slots-doubtful c = doubt-none c.args.table.now c.args.p.now _ _ c.slots.ensures c.held_at-doubtful.ensures c.if-slots-doubtful.true

pub overflow_mul-table : goal.overflow_mul-table
overflow_mul-table c = omega (arith, few c.args.table.now c.held_at-doubtful.result (doubt-in c.args.table.now c.args.p.now _ _ c.slots.ensures c.held_at-doubtful.ensures c.if-slots-doubtful.false))

pub overflow_add-table : goal.overflow_add-table
overflow_add-table c = omega (arith, few c.args.table.now c.held_at-doubtful.result (doubt-in c.args.table.now c.args.p.now _ _ c.slots.ensures c.held_at-doubtful.ensures c.if-slots-doubtful.false))

pub bounds-table-doubtful : goal.bounds-table-doubtful
bounds-table-doubtful c = omega (arith, slot_whole c.args.table.now c.held_at-doubtful.result (doubt-in c.args.table.now c.args.p.now _ _ c.slots.ensures c.held_at-doubtful.ensures c.if-slots-doubtful.false))

pub returns : goal.returns
returns c = doubt-held c.args.table.now c.args.p.now _ _ c.slots.ensures c.held_at-doubtful.ensures _ c.if-slots-doubtful.false (doubt-done c.args.table.now c.held_at-doubtful.result (doubt-in c.args.table.now c.args.p.now _ _ c.slots.ensures c.held_at-doubtful.ensures c.if-slots-doubtful.false))
