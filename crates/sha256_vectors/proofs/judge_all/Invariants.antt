-- `judge_all` is safe and ends: the measure is what is left of the text.
use mathlib.Core.Path.{◌≡◌}
use lib.ListN.{length}
use Prim.Native.Nat.{◌≤◌, ◌-◌}
use Rattle.sha256_vectors.proofs.judge_all.Given as goal

abbrev pub invariant-loop-t : goal.invariant-loop-t
invariant-loop-t l = (l.t.at ≤ length l.text) × (l.t.vectors ≤ l.t.at) × (l.t.agreed ≤ l.t.vectors) × (length l.room ≡ length l.initial.room)

abbrev pub decreases-loop-t : goal.decreases-loop-t
decreases-loop-t l = length l.text - l.t.at
