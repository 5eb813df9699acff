-- The largest sizes of RULES, Messages: nothing within the limits is larger, and something is as large. proofs/Largest.antt shows each.
use Rattle.std.specs.Prelude.{ℕ, ◌≤◌, ◌<◌, ◌≡◌, [], ◌∷◌, true, length, leb}
use Rattle.octets.specs.Search.{every, all_of}
use Rattle.limits.specs.Limits.{most_key, most_kind}
use Rattle.wire.specs.Items.{bytes, written1}
use Rattle.message.specs.Message.{Peer, Record, Message, encode_peer, encode_record, encode}
use Rattle.pieces.specs.Writable.{peer_fits, record_fits, held_fits}

-- n is the largest size of those within the limits
pub record Largest {A : Type 0} (Fits : A → Type 0) (size : A → ℕ) (n : ℕ) : Type 0 where
  pub most : (a : A) → Fits a → size a ≤ n
  pub one : (a : A) × Fits a × (size a ≡ n)

-- the body of a GET_VALUE reply: a type, a record if any, and up to twenty peers
pub record GetValueBody (m : Message) : Type 0 where
  pub kind : m.kind ≤ most_kind
  pub key : m.key ≡ []
  pub held : held_fits m.held ≡ true
  pub closer : every peer_fits m.closer ≡ true
  pub twenty : length m.closer ≤ 20
  pub providers : m.providers ≡ []

-- that of PUT_VALUE's echo: a type, a key, a record
pub record EchoBody (m : Message) : Type 0 where
  pub kind : m.kind ≤ most_kind
  pub key : length m.key ≤ most_key
  pub held : held_fits m.held ≡ true
  pub closer : m.closer ≡ []
  pub providers : m.providers ≡ []

pub record Claims : Type 0 where
  -- "key 128, value 3,072": a record can be written exactly within these
  pub record-limits : (r : Record) → record_fits r ≡ all_of (leb (length r.key) 128 ∷ leb (length r.value) 3072 ∷ [])
  -- "A peer is then at most 595 bytes with tag and length": as a field f, whose tag is one byte
  pub peer : (f : ℕ) → f < 16 → Largest (λ (p : Peer). peer_fits p ≡ true) (λ p. length (written1 (bytes f (encode_peer p)))) 595
  -- a record 3,209
  pub held : Largest (λ (r : Record). record_fits r ≡ true) (λ r. length (written1 (bytes 3 (encode_record r)))) 3209
  -- "the largest GET_VALUE reply body is 2 + 3,209 + 20 x 595 = 15,111"
  pub reply : Largest GetValueBody (λ m. length (encode m)) 15111
  -- "the largest PUT_VALUE echo 2 + 131 + 3,209 = 3,342"
  pub echo : Largest EchoBody (λ m. length (encode m)) 3342
