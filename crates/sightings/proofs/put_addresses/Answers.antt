-- `sightings::put_addresses` meets its contract. Assumes nothing.
use native.Mathlib.Omega.{arith}
use mathlib.Core.Path.{◌≡◌}
use lib.ListN.{length}
use Rattle.contacts.specs.Table.{slots_of}
use Rattle.sightings.proofs.Moves.{addresses-done, addresses-same}
use Rattle.sightings.proofs.put_addresses.Goals as goal
use Rattle.sightings.proofs.put_addresses.Goals.{Start}

lens-long : (c : Start) → length c.args.p.lens ≡ 4
lens-long c = omega arith

addrs-long : (c : Start) → length c.args.p.addrs ≡ 512
addrs-long c = omega arith

pub overflow_mul-at : goal.overflow_mul-at
unfolding slots_of
overflow_mul-at c = omega arith

pub overflow_add-table : goal.overflow_add-table
unfolding slots_of
overflow_add-table c = omega arith

pub bounds-table-at : goal.bounds-table-at
unfolding slots_of
bounds-table-at c = omega arith

pub overflow_add-at : goal.overflow_add-at
unfolding slots_of
overflow_add-at c = omega arith

pub overflow_add-at-2 : goal.overflow_add-at-2
unfolding slots_of
overflow_add-at-2 c = omega arith

pub shape_of-table : goal.shape_of-table
shape_of-table c = addresses-same c.args.table.now c.args.i c.args.p _ _ c.copy.ensures c.copy-2.ensures

pub returns : goal.returns
returns c = addresses-done c.args.table.now c.args.i c.args.p _ _ c.requires (lens-long (goal.at.returns c).Start) (addrs-long (goal.at.returns c).Start) c.copy.ensures c.copy-2.ensures
