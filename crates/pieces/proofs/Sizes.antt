-- The largest sizes of RULES, Messages: a peer is at most 595 bytes with tag and length, the largest GET_VALUE reply body 15,111. Assumes nothing.
use Prim.Native.Nat.{ℕ, ◌+◌, ◌*◌, ◌≤◌, ◌<◌}
use mathlib.Core.Path.{◌≡◌, ap}
use mathlib.Core.List.{List, [], ◌∷◌, ◌++◌, map, append-nil}
use mathlib.Core.Logic.{⊎_elim}
use mathlib.Core.Bool.{true}
use native.Mathlib.Omega.{arith}
use lib.ListN.{length, length-append}
use borrow.Author.Tests.{leb-true}
use Rattle.octets.specs.Search.{every}
use Rattle.octets.proofs.Bools.{all_head, all_rest, eq-or-ne}
use Rattle.octets.proofs.Searching.{every-head, every-tail}
use Rattle.limits.specs.Limits.{most_id, most_addresses, most_key, most_value, most_kind, most_connection}
use Rattle.wire.specs.Items.{Item, num, bytes, written1, written, single, repeated}
use Rattle.wire_put.proofs.Digits.{minimal-one, minimal-two}
use Rattle.wire_put.proofs.Putting.{number-length, bytes-length, single-empty, single-full, written-append, written_one}
use Rattle.message.specs.Message.{Peer, Record, Message, peer_items, encode_peer, record_items, encode_record, held_items, message_items, encode}
use Rattle.pieces.specs.Writable.{address_fits, peer_fits, record_fits, held_fits}
use Rattle.pieces.specs.Sizes.{long_field, most_peer, most_peer_field, most_record, most_record_field, most_echo, most_reply}
use Rattle.std.specs.Prelude.{Some, None, Option}

-- ---- a field
bytes_small : (f : ℕ) (b : List ℕ) (most : ℕ) → f < 16 → length b ≤ most → most < 128 → length (written1 (bytes f b)) ≤ 2 + most
bytes_small f b most h l k = omega (arith, bytes-length f b h, minimal-one (length b) (omega arith))

bytes-medium : (f : ℕ) (b : List ℕ) (most : ℕ) → f < 16 → length b ≤ most → most < 16384 → length (written1 (bytes f b)) ≤ 3 + most
bytes-medium f b most h l k = omega (arith, bytes-length f b h, minimal-two (length b) (omega arith))

single-most : (f : ℕ) (b : List ℕ) (n : ℕ) → length (written1 (bytes f b)) ≤ n → length (written (single f b)) ≤ n
single-most f b n h =
    ⊎_elim (λ e. rw (single-empty f b e) (omega arith)) (λ e. rw (single-full f b e) h) (eq-or-ne (length b) 0)

-- ---- a peer
addresses-most : (l : List (List ℕ)) → every address_fits l ≡ true → length (written (repeated 2 l)) ≤ 131 * length l
unfolding repeated written
addresses-most [] e = omega arith
addresses-most (a ∷ l) e =
    let h : length a ≤ 128 = unfold address_fits in leb-true (length a) 128 (every-head address_fits a l e) in
    let b = bytes-medium 2 a 128 (omega arith) h (omega arith) in
    omega (arith, length-append (written1 (bytes 2 a)) (written (repeated 2 l)), addresses-most l (every-tail address_fits a l e))

pub peer-bytes : (p : Peer) → encode_peer p ≡ written (single 1 p.id) ++ (written (repeated 2 p.addrs) ++ written1 (num 3 p.connection))
unfolding encode_peer peer_items
peer-bytes p =
    rw (written-append (single 1 p.id) (repeated 2 p.addrs ++ (num 3 p.connection ∷ [])), written-append (repeated 2 p.addrs) (num 3 p.connection ∷ []), written_one (num 3 p.connection))

-- a peer's limits, taken apart
pub record FittingPeer (p : Peer) : Type 0 where
  pub id : length p.id ≤ most_id
  pub few : length p.addrs ≤ most_addresses
  pub addrs : every address_fits p.addrs ≡ true
  pub connection : p.connection ≤ most_connection

pub fitting-peer : (p : Peer) → peer_fits p ≡ true → FittingPeer p
unfolding peer_fits
fitting-peer p e =
    let e₁ = all_rest _ _ e in
    let e₂ = all_rest _ _ e₁ in
    let e₃ = all_rest _ _ e₂ in
    record { id = leb-true _ _ (all_head _ _ e); few = leb-true _ _ (all_head _ _ e₁); addrs = all_head _ _ e₂; connection = leb-true _ _ (all_head _ _ e₃) }

pub peer-most : (p : Peer) → peer_fits p ≡ true → length (encode_peer p) ≤ most_peer
peer-most p e =
    let f = fitting-peer p e in
    let i = single-most 1 p.id 66 (bytes_small 1 p.id 64 (omega arith) f.id (omega arith)) in
    let a = addresses-most p.addrs f.addrs in
    let c : length (written1 (num 3 p.connection)) ≡ 2 = omega (arith, number-length 3 p.connection (omega arith), minimal-one p.connection (omega (arith, f.connection))) in
    rw (peer-bytes p)
    (omega (arith, f.few, length-append (written (single 1 p.id)) (written (repeated 2 p.addrs) ++ written1 (num 3 p.connection)), length-append (written (repeated 2 p.addrs)) (written1 (num 3 p.connection))))

-- "a peer is then at most 595 bytes with tag and length"
pub entry-most : (f : ℕ) (p : Peer) → f < 16 → peer_fits p ≡ true → length (written1 (bytes f (encode_peer p))) ≤ most_peer_field
entry-most f p h e = bytes-medium f (encode_peer p) most_peer h (peer-most p e) (omega arith)

pub entries-most : (f : ℕ) (l : List Peer) → f < 16 → every peer_fits l ≡ true → length (written (repeated f (map encode_peer l))) ≤ most_peer_field * length l
unfolding repeated written
entries-most f [] h e = omega arith
entries-most f (p ∷ l) h e =
    omega (arith, length-append (written1 (bytes f (encode_peer p))) (written (repeated f (map encode_peer l))), entry-most f p h (every-head peer_fits p l e), entries-most f l h (every-tail peer_fits p l e))

-- ---- a record
pub record-bytes : (r : Record) → encode_record r ≡ written (single 1 r.key) ++ written (single 2 r.value)
unfolding encode_record record_items
record-bytes r = written-append (single 1 r.key) (single 2 r.value)

pub record FittingRecord (r : Record) : Type 0 where
  pub key : length r.key ≤ most_key
  pub value : length r.value ≤ most_value

pub fitting-record : (r : Record) → record_fits r ≡ true → FittingRecord r
unfolding record_fits
fitting-record r e = record { key = leb-true _ _ (all_head _ _ e); value = leb-true _ _ (all_head _ _ (all_rest _ _ e)) }

pub record-most : (r : Record) → record_fits r ≡ true → length (encode_record r) ≤ most_record
record-most r e =
    let f = fitting-record r e in
    let k = single-most 1 r.key 131 (bytes-medium 1 r.key 128 (omega arith) f.key (omega arith)) in
    let v = single-most 2 r.value (long_field most_value) (bytes-medium 2 r.value most_value (omega arith) f.value (omega arith)) in
    rw (record-bytes r) (omega (arith, length-append (written (single 1 r.key)) (written (single 2 r.value))))

pub record-entry-most : (r : Record) → record_fits r ≡ true → length (written1 (bytes 3 (encode_record r))) ≤ most_record_field
record-entry-most r e = bytes-medium 3 (encode_record r) most_record (omega arith) (record-most r e) (omega arith)

pub held-most : (o : Option Record) → held_fits o ≡ true → length (written (held_items o)) ≤ most_record_field
unfolding held_items held_fits written
held-most None e = omega arith
held-most (Some r) e = rw (append-nil (written1 (bytes 3 (encode_record r)))) (record-entry-most r e)

-- ---- a message
pub message-bytes : (m : Message)
    → encode m ≡ written1 (num 1 m.kind) ++ (written (single 2 m.key) ++ (written (held_items m.held) ++ (written (repeated 8 (map encode_peer m.closer)) ++ written (repeated 9 (map encode_peer m.providers)))))
unfolding encode message_items written
message-bytes m =
    let C : List Item = repeated 8 (map encode_peer m.closer) in
    let D : List Item = repeated 9 (map encode_peer m.providers) in
    rw (written-append (single 2 m.key) (held_items m.held ++ (C ++ D)), written-append (held_items m.held) (C ++ D), written-append C D)

pub message-length : (m : Message)
    → length (encode m) ≡ length (written1 (num 1 m.kind)) + (length (written (single 2 m.key)) + (length (written (held_items m.held)) + (length (written (repeated 8 (map encode_peer m.closer))) + length (written (repeated 9 (map encode_peer m.providers))))))
message-length m =
    let a : List ℕ = written1 (num 1 m.kind) in
    let b : List ℕ = written (single 2 m.key) in
    let c : List ℕ = written (held_items m.held) in
    let d : List ℕ = written (repeated 8 (map encode_peer m.closer)) in
    let e : List ℕ = written (repeated 9 (map encode_peer m.providers)) in
    omega (arith, ap length (message-bytes m), length-append a (b ++ (c ++ (d ++ e))), length-append b (c ++ (d ++ e)), length-append c (d ++ e), length-append d e)

-- "the largest GET_VALUE reply body is 2 + 3,209 + 20 x 595 = 15,111": type, record and twenty peers
pub reply-most : (m : Message) → m.kind ≤ most_kind → m.key ≡ [] → held_fits m.held ≡ true → every peer_fits m.closer ≡ true → length m.closer ≤ 20 → m.providers ≡ []
    → length (encode m) ≤ most_reply
unfolding single repeated written
reply-most m k ek h c l ep =
    let a : length (written1 (num 1 m.kind)) ≡ 2 = omega (arith, number-length 1 m.kind (omega arith), minimal-one m.kind (omega arith)) in
    let b : length (written (single 2 m.key)) ≡ 0 = rw ek in
    let e : length (written (repeated 9 (map encode_peer m.providers))) ≡ 0 = rw ep in
    omega (arith, message-length m, held-most m.held h, entries-most 8 m.closer (omega arith) c)

-- "the largest PUT_VALUE echo 2 + 131 + 3,209 = 3,342": type, key and record
pub echo-most : (m : Message) → m.kind ≤ most_kind → length m.key ≤ most_key → held_fits m.held ≡ true → m.closer ≡ [] → m.providers ≡ [] → length (encode m) ≤ most_echo
unfolding repeated written
echo-most m k l h ec ep =
    let a : length (written1 (num 1 m.kind)) ≡ 2 = omega (arith, number-length 1 m.kind (omega arith), minimal-one m.kind (omega arith)) in
    let b = single-most 2 m.key (long_field most_key) (bytes-medium 2 m.key most_key (omega arith) l (omega arith)) in
    let d : length (written (repeated 8 (map encode_peer m.closer))) ≡ 0 = rw ec in
    let e : length (written (repeated 9 (map encode_peer m.providers))) ≡ 0 = rw ep in
    omega (arith, message-length m, held-most m.held h)
