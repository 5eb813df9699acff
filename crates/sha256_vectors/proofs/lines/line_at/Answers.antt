-- `line_at` is safe, and its value and the next line lie in the text. The value starts after the name, since `begins` says that the name fits.
use native.Mathlib.Omega.{arith}
use lib.ListN.{length-take, length-drop}
use Rattle.sha256_vectors.proofs.lines.line_at.Goals as goal

pub returns-then-begins-clause-from_le_to : goal.returns-then-begins-clause-from_le_to
returns-then-begins-clause-from_le_to c = omega (arith, simp (length-take, length-drop) at (c.begins.ensures c.if-begins.true))
