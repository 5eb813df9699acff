-- `verdict_on` is safe: the message that is hashed lies in `room`.
use native.Mathlib.Omega.{arith}
use lib.ListN.{length-take}
use Rattle.sha256_vectors.proofs.verdict_on.Goals as goal

pub slice_bounds-agrees-end-2 : goal.slice_bounds-agrees-end-2
slice_bounds-agrees-end-2 c = simp length-take (omega arith)
