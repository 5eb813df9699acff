-- `set_turn`: past the end nothing is set.
use mathlib.Core.Path.{sym}
use native.Mathlib.Omega.{arith}
use lib.Seq.{set_out}
use Rattle.recipe_fields.proofs.set_turn.Goals as goal

pub returns-then-turns-i : goal.returns-then-turns-i
returns-then-turns-i c = sym (set_out c.args.turns.now c.args.i c.args.turn (omega arith))
