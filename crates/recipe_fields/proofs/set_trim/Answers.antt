-- `set_trim`: past the end nothing is set.
use mathlib.Core.Path.{sym}
use native.Mathlib.Omega.{arith}
use lib.Seq.{set_out}
use Rattle.recipe_fields.proofs.set_trim.Goals as goal

pub returns-then-trims-i : goal.returns-then-trims-i
returns-then-trims-i c = sym (set_out c.args.trims.now c.args.i c.args.trim (omega arith))
