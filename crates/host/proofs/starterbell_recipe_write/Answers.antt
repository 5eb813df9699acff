-- `starterbell_recipe_write` meets its contract. Assumes nothing.
use mathlib.Core.Path.{ap, ◌∙◌}
use Rattle.host_answers.specs.Answers.{recipe_number, recipe_numbers}
use borrow.Author.Rules.{rules}
use Rattle.host.proofs.starterbell_recipe_write.Goals as goal

pub returns : goal.returns
returns c = (
  c.recipe_write_answer.ensures.0 ∙ ap recipe_number c.write-w.ensures.0,
  c.write-w.ensures.1,
  c.recipe_write_answer.ensures.1 ∙ ap (recipe_numbers c.args.out.now) c.write-w.ensures.0,
)
