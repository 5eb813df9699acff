-- `connections::refuse_open` meets its contract. Assumes nothing.
use Rattle.connections.proofs.Opening.{shut-peer}
use borrow.Author.Rules.{rules}
use Rattle.connections.proofs.refuse_open.Goals as goal

pub returns : goal.returns
returns c = shut-peer _ _ _ _ c.no_peer-peer.ensures c.shut-framing.ensures
