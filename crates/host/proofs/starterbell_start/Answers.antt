-- `starterbell_start` meets its contract. Assumes nothing.
use Rattle.host.proofs.Handing.{start-short, start-done}
use borrow.Author.Rules.{rules}
use Rattle.host.proofs.starterbell_start.Goals as goal

pub returns-then-me-lt-PEER : goal.returns-then-me-lt-PEER
returns-then-me-lt-PEER c = let a = c.args in start-short a.me.now a.id.now a.addresses.now c.if-me-lt-PEER.true

pub returns : goal.returns
returns c = let a = c.args in start-done a.me.now a.id.now a.addresses.now _ _ _ c.if-me-lt-PEER.false c.start.ensures c.keep_box.ensures
