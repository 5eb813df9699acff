-- `with_peer` reads the peer in place.
use Rattle.message.proofs.Gathering.{peer-sound, peer-broken}
use borrow.Author.Rules.{rules}
use Rattle.message.proofs.with_peer.Goals as goal

pub returns-then-well_formed : goal.returns-then-well_formed
returns-then-well_formed c = peer-sound _ _ _ _ c.front.ensures _ c.well_formed-2.ensures c.if-well_formed.true

pub returns : goal.returns
returns c = peer-broken _ _ _ _ c.front.ensures _ c.well_formed-2.ensures c.if-well_formed.false
