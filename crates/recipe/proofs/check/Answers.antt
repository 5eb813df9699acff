-- `check`: no rule is broken exactly by a recipe.
use mathlib.Core.Path.{ap, ◌∙◌}
use Rattle.std.specs.Prelude.{is_ok}
use Rattle.recipe.proofs.Faults.{fault-or-recipe}
use Rattle.recipe.proofs.check.Goals as goal

pub returns : goal.returns
returns c = c.is_good.ensures ∙ ap is_ok c.fault.ensures ∙ fault-or-recipe c.args.value.now
