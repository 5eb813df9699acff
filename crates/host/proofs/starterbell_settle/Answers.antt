-- `starterbell_settle` meets its contract. Assumes nothing.
use Rattle.host.proofs.Handing.{settle-short, settle-done}
use borrow.Author.Rules.{rules}
use Rattle.host.proofs.starterbell_settle.Goals as goal

pub returns-then-me-lt-PEER : goal.returns-then-me-lt-PEER
returns-then-me-lt-PEER c = let a = c.args in settle-short a.me.now a.contacts.now a.head.now a.id.now a.client a.addresses.now a.answered c.if-me-lt-PEER.true

pub returns : goal.returns
returns c = let a = c.args in settle-done a.me.now a.contacts.now a.head.now a.id.now a.client a.addresses.now a.answered _ _ _ _ _ _ c.if-me-lt-PEER.false c.peer_in-p.ensures c.says_yes-is_client.ensures c.says_yes.ensures c.settle-o.ensures c.settle_answer.ensures
