-- `place_for` halves what is left of the order.
use Prim.Native.Nat.{◌-◌}
use Rattle.keyed_slots.proofs.Ordering.{Halving}
use Rattle.keyed_slots.proofs.place_for.Given as goal

abbrev pub invariant-loop-lo : goal.invariant-loop-lo
invariant-loop-lo l = Halving l.size l.store l.order l.held l.key l.lo l.hi

abbrev pub decreases-loop-lo : goal.decreases-loop-lo
decreases-loop-lo l = l.hi - l.lo
