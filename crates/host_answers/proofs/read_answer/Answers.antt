-- `read_answer` meets its contract. Assumes nothing.
use Rattle.host_answers.specs.Answers.{read_number, read_numbers}
use Rattle.host_numbers.proofs.Handing.{by-case}
use mathlib.Core.Path.{refl}
use borrow.Author.Rules.{rules}
use Rattle.host_answers.proofs.read_answer.Goals as goal

pub returns-in-Ok : goal.returns-in-Ok
returns-in-Ok c = (by-case read_number _ _ _ c.in-Ok.is refl, by-case (read_numbers _) _ _ _ c.in-Ok.is c.put_view.ensures)

pub returns-in-Err : goal.returns-in-Err
returns-in-Err c = (by-case read_number _ _ _ c.in-Err.is c.code_of.ensures, by-case (read_numbers _) _ _ _ c.in-Err.is refl)
