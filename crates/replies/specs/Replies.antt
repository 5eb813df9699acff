-- The replies to requests, as messages: RULES, Answers.
use Rattle.std.specs.Prelude.{ℕ, Bool, cond, List, [], ◌∷◌, ◌++◌, map, length, get_or}
use Rattle.message.specs.Kinds.{put_value, get_value, find_node, ping}
use Rattle.octets.specs.Octets.{part, same}
use Rattle.octets.specs.Search.{some as some_below}
use Rattle.place.specs.Place.{place_of}
use Rattle.contacts.specs.Table.{slot, place}
use Rattle.contacts.specs.Near.{nearest_slots}
use Rattle.entries.specs.Entries.{contact_entry, peer_entry}
use Rattle.peer.specs.declared.Peer as peers
use Rattle.records.specs.Store.{found}
use Rattle.message.specs.Message.{Peer, Record, Message}
use Rattle.std.specs.Prelude.{Ok, Err, Some, None, Result, Option}
use Rattle.records.specs.declared.Held.{Held}
use Rattle.refusal.specs.declared.Refusal.{Refusal}

-- ---- closer peers
-- "closerPeers are the 20 nearest contacts", nearest first, the doubtful passed over: those of the table t nearest to the place x
unfoldable pub closer_peers : List ℕ → List ℕ → List Peer
closer_peers t x = map (λ i. contact_entry (slot t i)) (nearest_slots t x)

-- some contact among those lies at x: the entry for x is "there" already
unfoldable pub listed : List ℕ → List ℕ → Bool
listed t x = some_below (length (nearest_slots t x)) (λ k. same (place (slot t (get_or (nearest_slots t x) k 0))) x)

-- "FIND_NODE adds one last entry if the target place is ours or the requester's and isn't there yet"
unfoldable pub last_entry : peers.Peer → peers.Peer → List ℕ → List ℕ → List Peer
last_entry me who t x =
    cond (listed t x) []
    (cond (same x me.place) (peer_entry me ∷ [])
    (cond (same x who.place) (peer_entry who ∷ []) []))

-- ---- the replies
unfoldable pub find_node_reply : peers.Peer → peers.Peer → List ℕ → List ℕ → Message
find_node_reply me who t key =
    record { kind = find_node; key = []; held = None; closer = closer_peers t (place_of key) ++ last_entry me who t (place_of key); providers = [] }

-- the record that a store holds under a key
abbrev pub record_at : List ℕ → List ℕ → Result (Option Held) Refusal → Option Record
record_at k key (Ok (Some h)) = Some (record { key = key; value = part k h.start h.end })
record_at k key (Ok None) = None
record_at k key (Err r) = None

-- "GET_VALUE adds the record, if held"
unfoldable pub get_value_reply : List ℕ → List ℕ → List ℕ → Message
get_value_reply t k key = record { kind = get_value; key = []; held = record_at k key (found k key); closer = closer_peers t (place_of key); providers = [] }

-- "Echo: type, key, record's key and value"
unfoldable pub put_value_reply : List ℕ → List ℕ → Message
put_value_reply key value = record { kind = put_value; key = key; held = Some (record { key = key; value = value }); closer = []; providers = [] }

-- "PING: type alone"
unfoldable pub ping_reply : Message
ping_reply = record { kind = ping; key = []; held = None; closer = []; providers = [] }
