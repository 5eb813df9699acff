-- What a message says, and how it is written: RULES, Messages.
use Rattle.std.specs.Prelude.{ℕ, Bool, cond, length, leb}
use mathlib.Core.List.{List, [], ◌∷◌, ◌++◌, map, flatten as joined}
use Rattle.octets.specs.Search.{every, all_of, last_of}
use Rattle.limits.specs.Limits.{most_connection}
use Rattle.wire.specs.Items.{Item, num, bytes, items, is_field, values, parts, minimal, written, single, repeated}
use Rattle.std.specs.Prelude.{Some, None, Option}

-- "Peer id=1, addrs=2 (repeated), connection=3 (0 to 3)"
pub record Peer : Type 0 where
  pub id : List ℕ
  pub addrs : List (List ℕ)
  pub connection : ℕ

-- "Record key=1, value=2, timeReceived=5 (ignored)"
pub record Record : Type 0 where
  pub key : List ℕ
  pub value : List ℕ

-- "Message type=1, key=2, record=3, closerPeers=8, providerPeers=9, clusterLevelRaw=10 (ignored)"
pub record Message : Type 0 where
  pub kind : ℕ
  pub key : List ℕ
  pub held : Option Record
  pub closer : List Peer
  pub providers : List Peer

-- ---- reading: "a repeated single field: the last one counts", and an absent one reads as empty or 0

unfoldable pub record_of : List ℕ → Record
record_of s = record { key = last_of [] (parts 1 (items s)); value = last_of [] (parts 2 (items s)) }

-- "connection above 3 reads as 0"
unfoldable pub connection_of : ℕ → ℕ
connection_of v = cond (leb v most_connection) v 0

unfoldable pub peer_of : List ℕ → Peer
peer_of s =
    record {
      id = last_of [] (parts 1 (items s));
      addrs = parts 2 (items s);
      connection = connection_of (last_of 0 (values 3 (items s)));
    }

-- "read the record as though all its occurrences stood one after another" (request iv); one, even an empty one, makes it present
unfoldable pub merged : List (List ℕ) → Option Record
merged [] = None
merged (b ∷ bs) = Some (record_of (joined (b ∷ bs)))

unfoldable pub message_of : List ℕ → Message
message_of s =
    record {
      kind = last_of 0 (values 1 (items s));
      key = last_of [] (parts 2 (items s));
      held = merged (parts 3 (items s));
      closer = map peer_of (parts 8 (items s));
      providers = map peer_of (parts 9 (items s));
    }

-- every field is well formed
unfoldable pub well_formed : List ℕ → Bool
well_formed s = every is_field (items s)

-- "every record and peer inside must be well formed too"; of a record "each occurrence must still be well formed by itself"
unfoldable pub well_message : List ℕ → Bool
well_message s =
    all_of
    (well_formed s
    ∷ every well_formed (parts 3 (items s))
    ∷ every well_formed (parts 8 (items s))
    ∷ every well_formed (parts 9 (items s))
    ∷ [])

-- the message that a body is, or none where it isn't well formed
unfoldable pub decode : List ℕ → Option Message
decode s = cond (well_message s) (Some (message_of s)) None

-- ---- writing: "fields by ascending number, minimal varints, type and connection always"; "an empty single bytes field isn't written"; "a record,
-- peer or address is written even if empty"

unfoldable pub peer_items : Peer → List Item
peer_items p = single 1 p.id ++ (repeated 2 p.addrs ++ (num 3 p.connection ∷ []))

unfoldable pub encode_peer : Peer → List ℕ
encode_peer p = written (peer_items p)

unfoldable pub record_items : Record → List Item
record_items r = single 1 r.key ++ single 2 r.value

unfoldable pub encode_record : Record → List ℕ
encode_record r = written (record_items r)

unfoldable pub held_items : Option Record → List Item
held_items None = []
held_items (Some r) = bytes 3 (encode_record r) ∷ []

unfoldable pub message_items : Message → List Item
message_items m =
    num 1 m.kind
    ∷ (single 2 m.key
    ++ (held_items m.held
    ++ (repeated 8 (map encode_peer m.closer) ++ repeated 9 (map encode_peer m.providers))))

unfoldable pub encode : Message → List ℕ
encode m = written (message_items m)

-- "a message is an unsigned varint length, then the body" (RULES, Stream)
unfoldable pub frame : List ℕ → List ℕ
frame body = minimal (length body) ++ body
