-- `keys_apart` settles slot after slot.
use mathlib.Core.Path.{◌≡◌}
use mathlib.Core.Bool.{true}
use Prim.Native.Nat.{◌≤◌}
use Rattle.octets.specs.Search.{all}
use Rattle.keyed_slots.specs.Slots.{alone}
use Rattle.keyed_slots.specs.Inner.{Ordered}
use Rattle.keyed_slots.proofs.keys_apart.Given as goal

abbrev pub invariant-loop-i : goal.invariant-loop-i
invariant-loop-i l = (l.i ≤ l.n) × (all l.i (alone l.size l.store) ≡ true) × Ordered l.size l.store l.order l.held l.i
