-- What the inner functions of the crate ensure. No reader of the public contracts needs these.
use Rattle.std.specs.Prelude.{ℕ, Bool, List, [], map, get_or, take}
use Rattle.octets.specs.Octets.{same}
use Rattle.octets.specs.Search.{some as some_below}
use Rattle.contacts.specs.Table.{slot, place}
use Rattle.wire.specs.Items.{written, repeated}
use Rattle.message.specs.Message.{Peer, Record, Message, encode_peer}
use Rattle.entries.specs.Entries.{contact_entry}
use Rattle.std.specs.Prelude.{Option}

-- the contacts of the first n slots that a list names, as entries
unfoldable pub entries_to : List ℕ → List ℕ → ℕ → List Peer
entries_to t near n = map (λ i. contact_entry (slot t i)) (take n near)

-- one of those contacts lies at the place x
unfoldable pub lies_among : List ℕ → List ℕ → ℕ → List ℕ → Bool
lies_among t near n x = some_below n (λ k. same (place (slot t (get_or near k 0))) x)

-- entries of closerPeers, as they are written
unfoldable pub entry_bytes : List Peer → List ℕ
entry_bytes l = written (repeated 8 (map encode_peer l))

-- a reply with a record, if there is one, and closer peers
unfoldable pub reply_with : ℕ → Option Record → List Peer → Message
reply_with kind held closer = record { kind = kind; key = []; held = held; closer = closer; providers = [] }
