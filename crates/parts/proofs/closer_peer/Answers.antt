-- `closer_peer`: refused, unless it is a view; then the message's walk.
use Rattle.parts.proofs.Own.{closer-is}
use borrow.Author.Rules.{rules}
use Rattle.parts.proofs.closer_peer.Goals as goal

pub returns : goal.returns
returns c = closer-is _ _ _ c.is_view.ensures _ _ _ c.closer_peer.ensures c.found_if.ensures
