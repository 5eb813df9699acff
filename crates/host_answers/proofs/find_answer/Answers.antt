-- `find_answer` meets its contract. Assumes nothing.
use Rattle.host_answers.specs.Answers.{find_number, find_numbers}
use Rattle.host_numbers.proofs.Handing.{by-case}
use mathlib.Core.Path.{refl}
use borrow.Author.Rules.{rules}
use Rattle.host_answers.proofs.find_answer.Goals as goal
use mathlib.Core.Path.{ap, ◌∙◌}
use Rattle.std.specs.Prelude.{Ok}

pub returns-in-Ok-Some : goal.returns-in-Ok-Some
returns-in-Ok-Some c = (by-case find_number _ _ _ (c.in-Ok-Some.is ∙ ap Ok (rw c.in-Ok-Some.is at c.in-Ok-Some.field-0-is)) refl, by-case (find_numbers _) _ _ _ (c.in-Ok-Some.is ∙ ap Ok (rw c.in-Ok-Some.is at c.in-Ok-Some.field-0-is)) c.put_numbers.ensures)

pub returns-in-Err : goal.returns-in-Err
returns-in-Err c = (by-case find_number _ _ _ c.in-Err.is c.code_of.ensures, by-case (find_numbers _) _ _ _ c.in-Err.is refl)
