-- `node::receive` meets its contract. Assumes nothing.
use Rattle.replies.specs.Lent.{lent}
use Rattle.node.specs.Node.{linked}
use Rattle.node.proofs.Receiving.{receive-closed, receive-taken}
use borrow.Author.Rules.{rules}
use Rattle.node.proofs.receive.Goals as goal

pub returns-in-Err : goal.returns-in-Err
returns-in-Err c = let a = c.args in receive-closed a.me (linked a.conn a.buffer.now) a.piece.now (lent a.contacts.now a.records.now a.reply.now) _ c.gate_of.ensures _ _ c.in-Err.is c.hand_back.ensures

pub returns-in-Ok : goal.returns-in-Ok
returns-in-Ok c = let a = c.args in receive-taken a.me (linked a.conn a.buffer.now) a.piece.now (lent a.contacts.now a.records.now a.reply.now) _ c.gate_of.ensures _ _ _ _ _ c.in-Ok.is c.take_bytes.ensures
