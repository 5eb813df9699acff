-- `starterbell_message_read` goes by what `read` gives.
use Rattle.message_c.proofs.Answers.{read_whole, read-refused}
use borrow.Author.Rules.{rules}
use Rattle.message_c.proofs.starterbell_message_read.Goals as goal

pub returns-in-Ok : goal.returns-in-Ok
returns-in-Ok c = read_whole _ _ _ _ _ c.in-Ok.is c.read.ensures c.flag.ensures

pub returns-in-Err : goal.returns-in-Err
returns-in-Err c = read-refused _ _ _ _ _ c.in-Err.is c.read.ensures c.number.ensures
