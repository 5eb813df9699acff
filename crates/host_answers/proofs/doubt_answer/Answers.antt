-- `doubt_answer` meets its contract. Assumes nothing.
use Rattle.contact_calls.specs.Calls.{doubt_number}
use Rattle.host_numbers.proofs.Handing.{by-case}
use borrow.Author.Rules.{rules}
use Rattle.host_answers.proofs.doubt_answer.Goals as goal

pub returns-in-Err : goal.returns-in-Err
returns-in-Err c = by-case doubt_number _ _ _ c.in-Err.is c.code_of.ensures
