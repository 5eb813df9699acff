-- `found` judges the connection.
use borrow.Author.Tests.{le-leb, lt-leb}
use Rattle.message.specs.Message.{connection_of}
use Rattle.peer_walk.specs.Inner.{found_of}
use Rattle.peer_walk.proofs.found.Goals as goal

pub returns-then-connection-le-MOST_CONNECTION : goal.returns-then-connection-le-MOST_CONNECTION
returns-then-connection-le-MOST_CONNECTION c = unfold found_of connection_of in rw (le-leb _ _ c.if-connection-le-MOST_CONNECTION.true)

pub returns : goal.returns
returns c = unfold found_of connection_of in rw (lt-leb _ _ c.if-connection-le-MOST_CONNECTION.false)
