-- `node::see_sender` meets its contract. Assumes nothing.
use borrow.Author.Tests.{not-true, not-false}
use Rattle.node.proofs.Receiving.{client-unseen, server-seen}
use borrow.Author.Rules.{rules}
use Rattle.node.proofs.see_sender.Goals as goal

pub returns-then-not-conn : goal.returns-then-not-conn
returns-then-not-conn c = let a = c.args in client-unseen a.me a.conn a.contacts.now (not-true _ c.if-not-conn.true)

pub returns : goal.returns
returns c = let a = c.args in server-seen a.me a.conn a.contacts.now _ _ (not-false _ c.if-not-conn.false) c.seen-s.ensures.0 c.seen-s.ensures.1
