-- Entries of closerPeers: RULES, Answers.
use Rattle.std.specs.Prelude.{ℕ, List}
use Rattle.contacts.specs.Contact.{entry_id, entry_addresses}
use Rattle.peer.specs.declared.Peer as peers
use Rattle.peer.specs.Peers.{id_in, usable_in}
use Rattle.message.specs.Message.{Peer}

-- "connection 0"
abbrev pub unconnected : ℕ
unconnected = 0

-- a contact, by its slot
unfoldable pub contact_entry : List ℕ → Peer
contact_entry s = record { id = entry_id s; addrs = entry_addresses s; connection = unconnected }

-- we or the requester: "Its first four usable addresses come from the box's start .. or the open"
unfoldable pub peer_entry : peers.Peer → Peer
peer_entry p = record { id = id_in p; addrs = usable_in p; connection = unconnected }
