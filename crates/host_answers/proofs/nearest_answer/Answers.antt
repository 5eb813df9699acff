-- `nearest_answer` meets its contract. Assumes nothing.
use Rattle.host_answers.proofs.Handing.{near-told, near-refused}
use borrow.Author.Rules.{rules}
use Rattle.host_answers.proofs.nearest_answer.Goals as goal

pub returns-in-Ok : goal.returns-in-Ok
returns-in-Ok c = near-told c.args.out.now c.args.n _ _ c.in-Ok.is c.put_number.ensures c.put_numbers.ensures

pub returns-in-Err : goal.returns-in-Err
returns-in-Err c = near-refused _ c.args.n _ _ c.in-Err.is c.code_of.ensures
