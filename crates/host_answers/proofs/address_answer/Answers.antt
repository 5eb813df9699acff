-- `address_answer` meets its contract. Assumes nothing.
use Rattle.host_answers.specs.Answers.{part_number, address_numbers}
use Rattle.host_numbers.proofs.Handing.{by-case}
use mathlib.Core.Path.{refl}
use borrow.Author.Rules.{rules}
use Rattle.host_answers.proofs.address_answer.Goals as goal

pub returns-in-Some : goal.returns-in-Some
returns-in-Some c = (by-case part_number _ _ _ c.in-Some.is refl, by-case (address_numbers _) _ _ _ c.in-Some.is c.put_numbers.ensures)
