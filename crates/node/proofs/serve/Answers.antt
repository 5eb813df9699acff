-- `node::serve` meets its contract. Assumes nothing.
use Rattle.replies.specs.Lent.{lent}
use Rattle.node.proofs.Receiving.{serve-refused, serve-replied}
use borrow.Author.Rules.{rules}
use Rattle.node.proofs.serve.Goals as goal

pub returns-in-Err : goal.returns-in-Err
returns-in-Err c = let a = c.args in serve-refused a.me a.conn a.taken a.body.now (lent a.contacts.now a.records.now a.reply.now) _ _ _ c.answer.ensures _ _ c.in-Err.is c.refuse.ensures

pub returns-in-Ok : goal.returns-in-Ok
returns-in-Ok c = let a = c.args in serve-replied a.me a.conn a.taken a.body.now (lent a.contacts.now a.records.now a.reply.now) _ _ _ c.answer.ensures _ _ _ _ c.in-Ok.is c.see_sender-s.ensures c.hand_back.ensures
