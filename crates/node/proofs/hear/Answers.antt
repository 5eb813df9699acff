-- `node::hear` meets its contract. Assumes nothing.
use Rattle.node.proofs.Receiving.{hear-whole, hear-refused}
use borrow.Author.Rules.{rules}
use Rattle.node.proofs.hear.Goals as goal

pub returns-in-Ok : goal.returns-in-Ok
returns-in-Ok c = let a = c.args in hear-whole a.conn a.taken a.body.now _ c.read.ensures _ _ c.in-Ok.is c.hand_back.ensures

pub returns-in-Err : goal.returns-in-Err
returns-in-Err c = let a = c.args in hear-refused a.conn a.taken a.body.now _ c.read.ensures _ _ c.in-Err.is c.refuse.ensures
