-- `connections::no_peer` meets its contract. Assumes nothing.
use Rattle.connections.specs.Box.{nobody}
use borrow.Author.Rules.{rules}
use Rattle.connections.proofs.no_peer.Goals as goal

pub returns : goal.returns
unfolding nobody
returns c = c.peer_of.ensures
