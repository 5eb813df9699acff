-- `contact_in` meets its contract. Assumes nothing.
use Rattle.contact_slots.proofs.Laws.{in-done}
use borrow.Author.Rules.{rules}
use Rattle.contact_slots.proofs.contact_in.Goals as goal

pub returns : goal.returns
returns c = in-done _ _ _ _ _ c.slot_of-s.ensures c.peer_in-peer.ensures c.byte-mark.ensures c.byte-doubt.ensures
