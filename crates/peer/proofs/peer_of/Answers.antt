-- `peer::peer_of` meets its contract. Assumes nothing.
use mathlib.Core.Path.{◌∙◌}
use Rattle.peer.proofs.Rooms.{sets-zeros}
use Rattle.peer.proofs.Meaning.{made}
use borrow.Author.Rules.{rules}
use Rattle.peer.proofs.peer_of.Goals as goal

pub returns : goal.returns
returns c = made _ _ _ _ _ _ _ _ (c.copy.ensures ∙ sets-zeros 64 _) c.keep-count.ensures.1 c.keep-count.ensures.2 c.cut_size-size.ensures c.keep-count.ensures.0
