-- `starterbell_lookup_reply` meets its contract. Assumes nothing.
use Rattle.host.proofs.Stepping.{reply-told, reply-short}
use borrow.Author.Rules.{rules}
use Rattle.host.proofs.starterbell_lookup_reply.Goals as goal

pub returns-then-me-lt-PEER : goal.returns-then-me-lt-PEER
returns-then-me-lt-PEER c = let a = c.args in reply-short a.me.now a.memory.now a.out.now c.if-me-lt-PEER.true a.id.now a.body.now a.view.now

pub returns : goal.returns
returns c = let a = c.args in reply-told a.memory.now a.out.now _ _ _ _ c.tell.ensures a.me.now c.if-me-lt-PEER.false _ c.peer_in-p.ensures a.id.now a.body.now a.view.now _ c.view_in.ensures c.lookup_reply-o.ensures
