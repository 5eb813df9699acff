-- `begins` is safe, and what begins with a name is at least as long as it.
use native.Mathlib.Omega.{arith}
use lib.ListN.{length-take}
use Rattle.sha256_vectors.proofs.Laws.{no}
use Rattle.sha256_vectors.proofs.lines.begins.Goals as goal

pub returns-then-s-n : goal.returns-then-s-n
returns-then-s-n c = λ e. no e

pub slice_bounds-eq-end : goal.slice_bounds-eq-end
slice_bounds-eq-end c = simp length-take (omega arith)
