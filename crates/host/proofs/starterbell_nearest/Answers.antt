-- `starterbell_nearest` meets its contract. Assumes nothing.
use Rattle.host.proofs.Handing.{nearest-short, nearest-done}
use borrow.Author.Rules.{rules}
use Rattle.host.proofs.starterbell_nearest.Goals as goal

pub returns-then-me-lt-PEER : goal.returns-then-me-lt-PEER
returns-then-me-lt-PEER c = let a = c.args in nearest-short a.me.now a.contacts.now a.key.now a.out.now c.if-me-lt-PEER.true

pub returns : goal.returns
returns c = let a = c.args in nearest-done a.me.now a.contacts.now a.key.now a.out.now _ _ _ _ c.if-me-lt-PEER.false c.peer_in.ensures c.nearest-n.ensures c.nearest_answer.ensures
