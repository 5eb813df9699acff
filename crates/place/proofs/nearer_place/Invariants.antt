-- `nearer_place` goes on while the two are equally far in the words that it has passed.
use Prim.Native.Nat.{◌%◌, ◌≤◌}
use mathlib.Core.Path.{◌≡◌}
use Rattle.place.proofs.Distance.{lead}
use Rattle.place.proofs.nearer_place.Given as goal

abbrev pub invariant-loop-i : goal.invariant-loop-i
invariant-loop-i l = (l.i ≤ 32) × (l.i % 8 ≡ 0) × (lead l.i l.a l.target ≡ lead l.i l.b l.target)
