-- `in_range` tests both ends.
use mathlib.Core.Path.{sym, ap, ◌∙◌}
use mir.Syntax.{w32}
use mir.ValLaws.{to_z-of_z}
use Rattle.recipe.specs.Faults.{trim_in}
use Rattle.recipe.proofs.Points.{trim-below, trim-above}
use Rattle.recipe.proofs.in_range.Goals as goal

pub returns-then-trim : goal.returns-then-trim
returns-then-trim c = sym (trim-below _ c.if-trim.true) ∙ ap trim_in (to_z-of_z w32 c.args.trim c.ranges.trim)

pub returns : goal.returns
returns c = trim-above _ c.if-trim.false ∙ ap trim_in (to_z-of_z w32 c.args.trim c.ranges.trim)
