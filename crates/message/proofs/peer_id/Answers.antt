-- `peer_id` reads the peer in place.
use mathlib.Core.Path.{◌∙◌}
use Rattle.wire.specs.Wire.{fields_in}
use Rattle.message.specs.View.{id_at}
use borrow.Author.Rules.{rules}
use Rattle.message.proofs.peer_id.Goals as goal

pub returns : goal.returns
returns c = c.last_bytes.ensures ∙ (unfold id_at fields_in in rw c.front.ensures)
