-- `sightings::write_slot` meets its contract. Assumes nothing.
use native.Mathlib.Omega.{arith}
use mathlib.Core.Path.{◌≡◌, refl}
use lib.ListN.{length}
use Rattle.contacts.specs.Table.{slots_of}
use Rattle.sightings.proofs.Moves.{write_done}
use Rattle.sightings.proofs.write_slot.Goals as goal
use Rattle.sightings.proofs.write_slot.Goals.{Start}

lens-long : (c : Start) → length c.args.p.lens ≡ 4
lens-long c = omega arith

place-long : (c : Start) → length c.args.p.place ≡ 32
place-long c = omega arith

id-long : (c : Start) → length c.args.p.id ≡ 64
id-long c = omega arith

pub overflow_mul-at : goal.overflow_mul-at
unfolding slots_of
overflow_mul-at c = omega arith

pub overflow_add-at : goal.overflow_add-at
unfolding slots_of
overflow_add-at c = omega arith

pub overflow_add-at-2 : goal.overflow_add-at-2
unfolding slots_of
overflow_add-at-2 c = omega arith

pub overflow_add-at-3 : goal.overflow_add-at-3
unfolding slots_of
overflow_add-at-3 c = omega arith

pub overflow_add-at-4 : goal.overflow_add-at-4
unfolding slots_of
overflow_add-at-4 c = omega arith

pub returns : goal.returns
returns c = write_done c.args.table.now _ c.args.i c.args.m c.args.p _ _ _ _ _ refl (lens-long (goal.at.returns c).Start) (place-long (goal.at.returns c).Start) (id-long (goal.at.returns c).Start) c.copy.ensures c.copy-2.ensures c.copy-3.ensures c.copy-4.ensures c.copy-5.ensures
