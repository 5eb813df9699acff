-- `starterbell_seen` meets its contract. Assumes nothing.
use Rattle.host.proofs.Handing.{seen-short, seen_done}
use borrow.Author.Rules.{rules}
use Rattle.host.proofs.starterbell_seen.Goals as goal

pub returns-then-me-lt-PEER : goal.returns-then-me-lt-PEER
returns-then-me-lt-PEER c = let a = c.args in seen-short a.me.now a.contacts.now a.id.now a.client a.addresses.now a.out.now c.if-me-lt-PEER.true

pub returns : goal.returns
returns c = let a = c.args in seen_done a.me.now a.contacts.now a.id.now a.client a.addresses.now a.out.now _ _ _ _ _ _ c.if-me-lt-PEER.false c.peer_in.ensures c.says_yes.ensures c.seen-o.ensures c.seen_answer.ensures
