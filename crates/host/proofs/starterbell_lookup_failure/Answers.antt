-- `starterbell_lookup_failure` meets its contract. Assumes nothing.
use Rattle.host.proofs.Stepping.{failure-told, failure-short}
use borrow.Author.Rules.{rules}
use Rattle.host.proofs.starterbell_lookup_failure.Goals as goal

pub returns-then-me-lt-PEER : goal.returns-then-me-lt-PEER
returns-then-me-lt-PEER c = let a = c.args in failure-short a.me.now a.memory.now a.out.now c.if-me-lt-PEER.true a.id.now

pub returns : goal.returns
returns c = let a = c.args in failure-told a.memory.now a.out.now _ _ _ _ c.tell.ensures a.me.now c.if-me-lt-PEER.false _ c.peer_in.ensures a.id.now c.lookup_failure-o.ensures
