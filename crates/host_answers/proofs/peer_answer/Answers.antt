-- `peer_answer` meets its contract. Assumes nothing.
use Rattle.host_answers.proofs.Handing.{entry-written}
use borrow.Author.Rules.{rules}
use Rattle.host_answers.proofs.peer_answer.Goals as goal

pub returns-in-Some : goal.returns-in-Some
returns-in-Some c = entry-written _ _ _ _ _ _ _ c.in-Some.is c.walk-w.ensures c.put_numbers.ensures c.put_numbers-in-Some.ensures
