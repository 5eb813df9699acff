-- `recipe_write_answer` meets its contract. Assumes nothing.
use Rattle.host_answers.specs.Answers.{recipe_number, recipe_numbers}
use Rattle.host_numbers.proofs.Handing.{by-case}
use mathlib.Core.Path.{refl}
use borrow.Author.Rules.{rules}
use Rattle.host_answers.proofs.recipe_write_answer.Goals as goal

pub returns-in-Ok : goal.returns-in-Ok
returns-in-Ok c = (by-case recipe_number _ _ _ c.in-Ok.is refl, by-case (recipe_numbers _) _ _ _ c.in-Ok.is c.put_number.ensures)

pub returns-in-Err : goal.returns-in-Err
returns-in-Err c = (by-case recipe_number _ _ _ c.in-Err.is c.broken_recipe.ensures.0, by-case (recipe_numbers _) _ _ _ c.in-Err.is c.broken_recipe.ensures.1)
