-- `read_prefix` folds `prefix_step`: what is left to read from `i` on completes the whole. Assumes nothing.
use Rattle.stream.proofs.Runs.{Reading}
use Rattle.stream.proofs.read_prefix.Given as goal

abbrev pub invariant-loop-i : goal.invariant-loop-i
invariant-loop-i l = Reading l.initial.h l.piece l.h l.i
