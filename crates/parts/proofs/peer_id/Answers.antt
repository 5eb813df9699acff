-- `peer_id`: refused, unless it is a view; then the message's.
use Rattle.parts.proofs.Own.{peer-id-is}
use borrow.Author.Rules.{rules}
use Rattle.parts.proofs.peer_id.Goals as goal

pub returns : goal.returns
returns c = peer-id-is _ _ _ c.is_view.ensures _ _ _ c.peer_id.ensures c.part_if.ensures
