-- `sightings::clear_slot` meets its contract. Assumes nothing.
use native.Mathlib.Omega.{arith}
use Rattle.contacts.specs.Table.{slots_of}
use Rattle.sightings.proofs.Moves.{clear-done}
use Rattle.sightings.proofs.clear_slot.Goals as goal

pub overflow_mul-i : goal.overflow_mul-i
unfolding slots_of
overflow_mul-i c = omega arith

pub returns : goal.returns
returns c = clear-done c.args.table.now c.args.i _ c.copy.ensures
