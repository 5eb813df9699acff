-- `core_distance`: format 1 has an empty second list, where the first begins.
use mathlib.Core.Path.{sym, ◌∙◌}
use Rattle.recipe.specs.Recipe.{core_distance_of}
use Rattle.recipe.proofs.Trailer.{second-two, second-one}
use Rattle.recipe.proofs.core_distance.Goals as goal

pub returns-then-format-eq-FORMAT_TWO : goal.returns-then-format-eq-FORMAT_TWO
unfolding core_distance_of
returns-then-format-eq-FORMAT_TWO c = c.number_at.ensures ∙ second-two c.args.value.now _ _ (sym c.format.ensures ∙ c.if-format-eq-FORMAT_TWO.true)

pub returns : goal.returns
unfolding core_distance_of
returns c = c.distance.ensures ∙ second-one c.args.value.now _ _ (λ q. c.if-format-eq-FORMAT_TWO.false (c.format.ensures ∙ q))
