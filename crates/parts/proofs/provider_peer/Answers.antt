-- `provider_peer`: refused, unless it is a view; then the message's walk.
use Rattle.parts.proofs.Own.{provider-is}
use borrow.Author.Rules.{rules}
use Rattle.parts.proofs.provider_peer.Goals as goal

pub returns : goal.returns
returns c = provider-is _ _ _ c.is_view.ensures _ _ _ c.provider_peer.ensures c.found_if.ensures
