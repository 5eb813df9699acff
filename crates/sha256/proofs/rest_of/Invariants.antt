-- `sha256::rest_of` meets its contract. The loop's invariant: the array is the bytes passed, and zeros. Assumes nothing.
use Rattle.std.proofs.Common.{◌≡◌, ◌+◌, ◌-◌, ◌≤◌, ◌++◌, get_or, take, drop, replicate, sym, refl, arith, length-drop, get_or-drop}
use Rattle.sha256.proofs.Padding.{copy_more, part-take}
use Rattle.sha256.proofs.rest_of.Given as goal

abbrev pub invariant-loop-i : goal.invariant-loop-i
invariant-loop-i l = (l.i ≤ l.n) × (l.t ≡ take l.i (drop l.from l.src) ++ replicate (128 - l.i) 0)

abbrev pub decreases-loop-i : goal.decreases-loop-i
decreases-loop-i l = l.n - l.i
