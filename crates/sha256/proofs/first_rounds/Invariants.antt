-- `sha256::first_rounds` meets its contract. The loop's invariant: 16 rounds are done for each turn. Assumes nothing.
use Rattle.std.proofs.Common.{◌≡◌, ℕ, ◌+◌, ◌-◌, ◌*◌, ◌≤◌, List, arith}
use Rattle.sha256.specs.Inner.{Done}
use Rattle.sha256.proofs.Schedule.{done_at, sixteen, sixteen-more}
use Rattle.sha256.proofs.first_rounds.Given as goal

abbrev pub invariant-loop-i : goal.invariant-loop-i
invariant-loop-i l = (l.i ≤ 3) × ((b : List ℕ) → Done b l.initial.v 0 l.initial.w l.initial.v → Done b l.initial.v (16 * l.i) l.w l.v)

abbrev pub decreases-loop-i : goal.decreases-loop-i
decreases-loop-i l = 3 - l.i
