-- `walk` reads the peer in place.
use mathlib.Core.Path.{◌∙◌}
use borrow.Author.Rules.{rules}
use Rattle.peer_walk.proofs.Walking.{peer-walked}
use Rattle.peer_walk.proofs.walk.Goals as goal

pub returns : goal.returns
returns c = c.walk_fields.ensures ∙ peer-walked _ _ _ c.front.ensures
