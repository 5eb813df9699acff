-- `slot_at` cuts out a slot.
use native.Mathlib.Omega.{arith}
use mathlib.Core.Path.{◌≡◌, ap}
use lib.ListN.{length}
use Rattle.keyed_slots.specs.Slots.{slot}
use Rattle.keyed_slots.proofs.Laying.{slot-in, slot-some, slot-long, slot-cut}
use Rattle.keyed_slots.proofs.slot_at.Goals as goal

pub overflow_mul-a : goal.overflow_mul-a
overflow_mul-a c = omega (arith, slot-in c.args.size c.args.store.now c.args.i c.requires)

pub overflow_add-e : goal.overflow_add-e
overflow_add-e c = omega (arith, slot-in c.args.size c.args.store.now c.args.i c.requires)

pub slice_bounds-result-end : goal.slice_bounds-result-end
slice_bounds-result-end c = omega (arith, slot-in c.args.size c.args.store.now c.args.i c.requires)

pub returns : goal.returns
returns c = let q : length (slot c.args.size c.args.store.now c.args.i) ≡ c.args.size = slot-long c.args.size c.args.store.now c.args.i c.requires in
    let e = ap length (slot-cut c.args.size c.args.store.now c.args.i) in
    (slot-cut c.args.size c.args.store.now c.args.i, omega (arith, e, q, slot-some c.args.size c.args.store.now c.args.i c.requires))
