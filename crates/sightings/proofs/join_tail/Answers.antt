-- `sightings::join_tail` meets its contract. Assumes nothing.
use native.Mathlib.Omega.{arith}
use mathlib.Core.Path.{ap, ◌∙◌}
use Rattle.contact_order.specs.Order.{tail_of}
use Rattle.sightings.proofs.Moves.{join-done}
use Rattle.sightings.proofs.join_tail.Goals as goal

pub overflow_add-tail : goal.overflow_add-tail
overflow_add-tail c = omega (arith, c.requires.1, c.tail_of-tail.ensures ∙ ap (tail_of c.args.table.now c.args.ours.now) c.bucket-b.ensures)

pub returns : goal.returns
returns c = join-done c.args.table.now c.args.ours.now c.args.p _ _ _ _ c.bucket-b.ensures c.tail_of-tail.ensures c.free_at-i.ensures c.write_slot.ensures
