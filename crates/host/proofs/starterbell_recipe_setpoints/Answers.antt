-- `starterbell_recipe_setpoints` meets its contract. Assumes nothing.
use mathlib.Core.Path.{ap, ◌∙◌}
use mathlib.Core.Bool.{Bool}
use Rattle.recipe_fields.specs.Places.{turns_after, trims_after}
use Rattle.host_answers.specs.Answers.{setpoints_number}
use borrow.Author.Rules.{rules}
use Rattle.host.proofs.starterbell_recipe_setpoints.Goals as goal

pub returns : goal.returns
returns c = let a = c.args in (
  c.setpoints_answer.ensures ∙ ap setpoints_number c.setpoints-is.ensures.0,
  c.setpoints-is.ensures.1 ∙ ap (λ (b : Bool). turns_after a.value.now b a.turns.now) c.says_yes.ensures,
  c.setpoints-is.ensures.2 ∙ ap (λ (b : Bool). trims_after a.value.now b a.trims.now) c.says_yes.ensures,
)
