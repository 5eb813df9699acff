-- `free_slot` goes from slot to slot; no slot before i is free.
use mathlib.Core.Path.{◌≡◌}
use mathlib.Core.Bool.{false}
use Prim.Native.Nat.{ℕ, ◌≤◌, ◌<◌}
use Rattle.keyed_slots.specs.Slots.{is_free}
use Rattle.keyed_slots.proofs.free_slot.Given as goal

abbrev pub invariant-loop-i : goal.invariant-loop-i
invariant-loop-i l = (l.i ≤ l.n) × ((j : ℕ) → j < l.i → is_free l.size l.store j ≡ false)
