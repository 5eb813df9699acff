-- `starterbell_lookup_start` meets its contract. Assumes nothing.
use Rattle.host.proofs.Stepping.{start-told, start-short}
use borrow.Author.Rules.{rules}
use Rattle.host.proofs.starterbell_lookup_start.Goals as goal

pub returns-then-me-lt-PEER : goal.returns-then-me-lt-PEER
returns-then-me-lt-PEER c = let a = c.args in start-short a.me.now a.memory.now a.out.now c.if-me-lt-PEER.true a.contacts.now a.key.now a.limit

pub returns : goal.returns
returns c = let a = c.args in start-told a.memory.now a.out.now _ _ _ _ c.tell.ensures a.me.now c.if-me-lt-PEER.false _ c.peer_in.ensures a.contacts.now a.key.now a.limit c.lookup_start-o.ensures
