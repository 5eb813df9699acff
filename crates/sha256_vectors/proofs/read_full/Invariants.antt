-- `read_full` is safe and ends: each read that goes on puts a byte more there.
use Rattle.std.proofs.Common.{length, ◌-◌, ◌≤◌}
use Rattle.sha256_vectors.proofs.read_full.Given as goal

abbrev pub invariant-loop-done : goal.invariant-loop-done
invariant-loop-done l = l.done ≤ length l.room

abbrev pub decreases-loop-done : goal.decreases-loop-done
decreases-loop-done l = length l.initial.room - l.done
