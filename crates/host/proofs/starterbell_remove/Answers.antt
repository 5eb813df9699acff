-- `starterbell_remove` meets its contract. Assumes nothing.
use Rattle.host.proofs.Handing.{remove-short, remove-done}
use borrow.Author.Rules.{rules}
use Rattle.host.proofs.starterbell_remove.Goals as goal

pub returns-then-me-lt-PEER : goal.returns-then-me-lt-PEER
returns-then-me-lt-PEER c = let a = c.args in remove-short a.me.now a.contacts.now a.id.now c.if-me-lt-PEER.true

pub returns : goal.returns
returns c = let a = c.args in remove-done a.me.now a.contacts.now a.id.now _ _ _ _ c.if-me-lt-PEER.false c.peer_in.ensures c.remove-o.ensures c.remove_answer.ensures
