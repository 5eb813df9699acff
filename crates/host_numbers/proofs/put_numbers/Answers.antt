use native.Mathlib.Omega.{arith}
use Prim.Native.Nat.{◌-◌}
use Rattle.octets.proofs.Stores.{Copying, copying, copy-on, copied}
use Rattle.host_numbers.proofs.put_numbers.Goals as goal

pub loop-i-init : goal.loop-i-init
loop-i-init c = copying _ _ _ _

pub offset_bounds-numbers-i : goal.offset_bounds-numbers-i
offset_bounds-numbers-i c = omega (arith, c.room-n.ensures.0)

pub bounds-numbers-i : goal.bounds-numbers-i
bounds-numbers-i c = omega (arith, c.room-n.ensures.0)

pub overflow_add-out : goal.overflow_add-out
overflow_add-out c = omega (arith, c.room-n.ensures.2 (omega arith))

pub offset_bounds-out-at : goal.offset_bounds-out-at
offset_bounds-out-at c = omega (arith, c.loop-i.invariant.kept, c.room-n.ensures.2 (omega arith))

pub bounds-out-at : goal.bounds-out-at
bounds-out-at c = omega (arith, c.loop-i.invariant.kept, c.room-n.ensures.2 (omega arith))

pub loop-i-preserved : goal.loop-i-preserved
loop-i-preserved c = copy-on _ _ _ _ _ _ c.loop-i.invariant (omega arith) (omega (arith, c.room-n.ensures.0))

pub shape_of-out : goal.shape_of-out
shape_of-out c = c.loop-i.invariant.kept

pub returns : goal.returns
returns c = copied _ _ _ _ _ _ c.loop-i.invariant (omega arith) c.room-n.ensures.0 c.room-n.ensures.1
