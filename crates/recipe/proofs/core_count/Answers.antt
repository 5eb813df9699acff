-- `core_count`: none in format 1.
use mathlib.Core.Path.{sym, ◌∙◌}
use Rattle.recipe.specs.Recipe.{core_count_of}
use Rattle.recipe.proofs.Trailer.{second-two, second-one}
use Rattle.recipe.proofs.core_count.Goals as goal

pub returns-then-format-eq-FORMAT_TWO : goal.returns-then-format-eq-FORMAT_TWO
unfolding core_count_of
returns-then-format-eq-FORMAT_TWO c = c.number_at.ensures ∙ second-two c.args.value.now _ _ (sym c.format.ensures ∙ c.if-format-eq-FORMAT_TWO.true)

pub returns : goal.returns
unfolding core_count_of
returns c = second-one c.args.value.now _ 0 (λ q. c.if-format-eq-FORMAT_TWO.false (c.format.ensures ∙ q))
