-- `peer_connection`: refused, unless it is a view; then the message's.
use Rattle.parts.proofs.Own.{peer-connection-is}
use borrow.Author.Rules.{rules}
use Rattle.parts.proofs.peer_connection.Goals as goal

pub returns : goal.returns
returns c = peer-connection-is _ _ _ c.is_view.ensures _ _ _ c.peer_connection.ensures c.number_if.ensures
