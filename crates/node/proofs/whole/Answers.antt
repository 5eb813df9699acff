-- `node::whole` meets its contract. Assumes nothing.
use Rattle.replies.specs.Lent.{lent}
use Rattle.node.proofs.Receiving.{whole-asked, whole-served}
use borrow.Author.Rules.{rules}
use Rattle.node.proofs.whole.Goals as goal

pub returns-then-conn : goal.returns-then-conn
returns-then-conn c = let a = c.args in whole-asked a.me a.conn a.taken a.body.now (lent a.contacts.now a.records.now a.reply.now) _ c.if-conn.true c.hear.ensures

pub returns : goal.returns
returns c = let a = c.args in whole-served a.me a.conn a.taken a.body.now (lent a.contacts.now a.records.now a.reply.now) _ _ _ _ c.if-conn.false c.serve.ensures
