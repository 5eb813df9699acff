-- `peer_address`: refused, unless it is a view; then the message's.
use Rattle.parts.proofs.Own.{peer-address-is}
use borrow.Author.Rules.{rules}
use Rattle.parts.proofs.peer_address.Goals as goal

pub returns : goal.returns
returns c = peer-address-is _ _ _ c.is_view.ensures _ _ _ _ c.peer_address.ensures c.found_if.ensures
