-- What may be written: RULES, Messages, "Limits: key 128, value 3,072, peer id 64, address 128, four addresses".
use Rattle.std.specs.Prelude.{ℕ, List, [], ◌∷◌, Bool, true, cond, length, take, leb}
use Rattle.octets.specs.Search.{every, all_of}
use Rattle.limits.specs.Limits.{most_id, most_address, most_addresses, most_key, most_value, most_body, most_kind, most_connection}
use Rattle.wire.specs.Items.{bytes, written1}
use Rattle.message.specs.Message.{Peer, Record, Message, encode_peer, encode_record, encode}
use Rattle.std.specs.Prelude.{Some, None, Option}

unfoldable pub address_fits : List ℕ → Bool
address_fits a = leb (length a) most_address

unfoldable pub peer_fits : Peer → Bool
peer_fits p =
    all_of (leb (length p.id) most_id ∷ leb (length p.addrs) most_addresses ∷ every address_fits p.addrs ∷ leb p.connection most_connection ∷ [])

unfoldable pub record_fits : Record → Bool
record_fits r = all_of (leb (length r.key) most_key ∷ leb (length r.value) most_value ∷ [])

unfoldable pub held_fits : Option Record → Bool
held_fits None = true
held_fits (Some r) = record_fits r

unfoldable pub writable : Message → Bool
writable m =
    all_of
    (leb m.kind most_kind
    ∷ leb (length m.key) most_key
    ∷ held_fits m.held
    ∷ every peer_fits m.closer
    ∷ every peer_fits m.providers
    ∷ leb (length (encode m)) most_body
    ∷ [])

-- ---- pieces of a reply: a record, and a peer as an entry of field f; nothing where one is over its limits

unfoldable pub record_piece : Record → List ℕ
record_piece r = cond (record_fits r) (written1 (bytes 3 (encode_record r))) []

unfoldable pub peer_piece : ℕ → Peer → List ℕ
peer_piece f p = cond (peer_fits p) (written1 (bytes f (encode_peer p))) []

-- a record of a key and a value, and a peer whose addresses are the first n of four
unfoldable pub record_with : List ℕ → List ℕ → Record
record_with key value = record { key = key; value = value }

unfoldable pub peer_with : List ℕ → ℕ → List ℕ → List ℕ → List ℕ → List ℕ → ℕ → Peer
peer_with id n a b c d connection = record { id = id; addrs = take n (a ∷ b ∷ c ∷ d ∷ []); connection = connection }
