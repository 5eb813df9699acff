-- `put_answer` meets its contract. Assumes nothing.
use Rattle.host_answers.specs.Answers.{put_number}
use Rattle.host_numbers.proofs.Handing.{by-case}
use borrow.Author.Rules.{rules}
use Rattle.host_answers.proofs.put_answer.Goals as goal

pub returns-in-Err : goal.returns-in-Err
returns-in-Err c = by-case put_number _ _ _ c.in-Err.is c.code_of.ensures
