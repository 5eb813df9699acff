-- `recipe_read_answer` meets its contract. Assumes nothing.
use Rattle.host_answers.specs.Answers.{spans_number, spans_numbers}
use Rattle.host_numbers.proofs.Handing.{by-case}
use mathlib.Core.Path.{refl}
use borrow.Author.Rules.{rules}
use Rattle.host_answers.proofs.recipe_read_answer.Goals as goal

pub returns-in-Ok : goal.returns-in-Ok
returns-in-Ok c = (by-case spans_number _ _ _ c.in-Ok.is refl, by-case (spans_numbers _) _ _ _ c.in-Ok.is c.put_numbers.ensures)

pub returns-in-Err : goal.returns-in-Err
returns-in-Err c = (by-case spans_number _ _ _ c.in-Err.is c.broken_recipe.ensures.0, by-case (spans_numbers _) _ _ _ c.in-Err.is c.broken_recipe.ensures.1)
