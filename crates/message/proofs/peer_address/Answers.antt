-- `peer_address` reads the peer in place.
use mathlib.Core.Path.{◌∙◌}
use borrow.Author.Rules.{rules}
use Rattle.message.proofs.peer_address.Goals as goal

pub returns : goal.returns
returns c = c.next_bytes.ensures ∙ rw c.front.ensures
