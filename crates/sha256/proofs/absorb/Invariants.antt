-- `sha256::absorb` meets its contract. The loop's invariant: the hash value is that after the blocks passed. Assumes nothing.
use Rattle.std.proofs.Common.{◌≡◌, ◌-◌, ◌≤◌, refl, add-one, arith}
use Rattle.sha256.specs.Sha256.{absorbed}
use Rattle.sha256.proofs.absorb.Given as goal

abbrev pub invariant-loop-i : goal.invariant-loop-i
invariant-loop-i l = (l.i ≤ l.n) × (l.v ≡ absorbed l.i l.src l.initial.v)

abbrev pub decreases-loop-i : goal.decreases-loop-i
decreases-loop-i l = l.n - l.i
