-- `address_over`: no address there, or one that is judged.
use native.Mathlib.Omega.{arith}
use Rattle.pieces.proofs.Pieces.{over_none, over-some}
use Rattle.pieces.proofs.address_over.Goals as goal

pub returns-then-n-k : goal.returns-then-n-k
returns-then-n-k c = over_none _ _ _ c.if-n-k.true

pub returns : goal.returns
returns c = over-some _ _ _ (omega arith)
