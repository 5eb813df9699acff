-- `slot_with` goes from slot to slot; no slot before i holds the key.
use mathlib.Core.Path.{◌≡◌}
use mathlib.Core.Bool.{false}
use Prim.Native.Nat.{ℕ, ◌≤◌, ◌<◌}
use Rattle.keyed_slots.specs.Slots.{holds}
use Rattle.keyed_slots.proofs.slot_with.Given as goal

abbrev pub invariant-loop-i : goal.invariant-loop-i
invariant-loop-i l = (l.i ≤ l.n) × ((j : ℕ) → j < l.i → holds l.size l.store l.key j ≡ false)
