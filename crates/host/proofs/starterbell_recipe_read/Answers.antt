-- `starterbell_recipe_read` meets its contract. Assumes nothing.
use Rattle.host_answers.specs.Answers.{spans_number, spans_numbers}
use mathlib.Core.Path.{ap, ◌∙◌}
use borrow.Author.Rules.{rules}
use Rattle.host.proofs.starterbell_recipe_read.Goals as goal

pub returns : goal.returns
returns c = (c.recipe_read_answer.ensures.0 ∙ ap spans_number c.read-s.ensures, c.recipe_read_answer.ensures.1 ∙ ap (spans_numbers _) c.read-s.ensures)
