-- What is written is read back, as the same message. Assumes nothing.
use Prim.Native.Nat.{ℕ, ◌≤◌, ◌<◌, ◌^◌}
use mathlib.Core.Path.{◌≡◌, refl, ◌∙◌}
use mathlib.Core.List.{List, [], ◌∷◌, ◌++◌, map, append-nil, flatten as joined}
use mathlib.Core.Bool.{true, false}
use native.Mathlib.Omega.{arith}
use lib.ListN.{length}
use lib.Dec.{eqb}
use borrow.Author.Tests.{le-leb, leb-true}
use Rattle.octets.specs.Search.{every, all_of, last_of}
use Rattle.octets.proofs.Bools.{all_head, all_rest}
use Rattle.octets.proofs.Searching.{every-head, every-tail}
use Rattle.limits.specs.Limits.{most_body, most_kind, most_connection}
use Rattle.wire.specs.Items.{Item, num, items, values, parts, single, repeated}
use Rattle.wire_put.specs.Claims.{AllGood}
use Rattle.wire_put.proofs.RoundTrip.{read_back, good-append, good-well, values-append, parts-append, Short, parts-short, single-good, repeated-good, values-single, values-repeated, single-other, single-same, repeated-other, repeated-same}
use Rattle.message.specs.Message.{Peer, Record, Message, record_of, connection_of, peer_of, merged, message_of, well_formed, well_message, decode, peer_items, encode_peer, record_items, encode_record, held_items, message_items, encode}
use Rattle.pieces.specs.Writable.{peer_fits, writable}
use Rattle.round_trip.specs.Claims.{RoundTrip}
use Rattle.std.specs.Prelude.{Some, None, Option}

-- ---- a record
module _ (r : Record) where
  record-good : AllGood (record_items r)
  unfolding record_items
  record-good = good-append (single 1 r.key) (single 2 r.value) (single-good 1 (omega arith) (omega arith) r.key) (single-good 2 (omega arith) (omega arith) r.value)

  record-key : last_of [] (parts 1 (record_items r)) ≡ r.key
  unfolding record_items
  record-key = rw (parts-append 1 (single 1 r.key) (single 2 r.value), single-other 2 1 refl r.value, append-nil (parts 1 (single 1 r.key))) (single-same 1 refl r.key)

  record-value : last_of [] (parts 2 (record_items r)) ≡ r.value
  unfolding record_items
  record-value = rw (parts-append 2 (single 1 r.key) (single 2 r.value), single-other 1 2 refl r.key) (single-same 2 refl r.value)

  module _ (h : length (encode_record r) < 2 ^ 64) where
    record-items : items (encode_record r) ≡ record_items r
    unfolding encode_record
    record-items = read_back (record_items r) record-good h

    record-well : well_formed (encode_record r) ≡ true
    unfolding well_formed
    record-well = rw record-items (good-well (record_items r) record-good)

    pub record-back : record_of (encode_record r) ≡ r
    unfolding record_of
    record-back = rw (record-items, record-key, record-value)

-- ---- a peer
module _ (p : Peer) (c : p.connection ≤ most_connection) where
  abbrev tail : List Item
  tail = num 3 p.connection ∷ []

  peer-good : AllGood (peer_items p)
  unfolding peer_items
  peer-good =
      good-append (single 1 p.id) _ (single-good 1 (omega arith) (omega arith) p.id)
      (good-append (repeated 2 p.addrs) _ (repeated-good 2 (omega arith) (omega arith) p.addrs) ((omega arith, omega arith, omega arith), tt))

  peer-id : last_of [] (parts 1 (peer_items p)) ≡ p.id
  unfolding peer_items parts
  peer-id =
      rw (parts-append 1 (single 1 p.id) (repeated 2 p.addrs ++ tail), parts-append 1 (repeated 2 p.addrs) tail, repeated-other 2 1 refl p.addrs, append-nil (parts 1 (single 1 p.id)))
      (single-same 1 refl p.id)

  peer-addrs : parts 2 (peer_items p) ≡ p.addrs
  unfolding peer_items parts
  peer-addrs =
      rw (parts-append 2 (single 1 p.id) (repeated 2 p.addrs ++ tail), parts-append 2 (repeated 2 p.addrs) tail, single-other 1 2 refl p.id, repeated-same 2 refl p.addrs)
      (append-nil p.addrs)

  peer-connection : connection_of (last_of 0 (values 3 (peer_items p))) ≡ p.connection
  unfolding peer_items values last_of connection_of
  peer-connection =
      rw (values-append 3 (single 1 p.id) (repeated 2 p.addrs ++ tail), values-append 3 (repeated 2 p.addrs) tail, values-single 1 3 p.id, values-repeated 2 3 p.addrs, le-leb p.connection most_connection c)

  module _ (h : length (encode_peer p) < 2 ^ 64) where
    peer-items : items (encode_peer p) ≡ peer_items p
    unfolding encode_peer
    peer-items = read_back (peer_items p) peer-good h

    peer-well : well_formed (encode_peer p) ≡ true
    unfolding well_formed
    peer-well = rw peer-items (good-well (peer_items p) peer-good)

    pub peer-back : peer_of (encode_peer p) ≡ p
    unfolding peer_of
    peer-back = rw (peer-items, peer-id, peer-addrs, peer-connection)

-- ---- peers
abbrev Connected : List Peer → Type 0
Connected [] = Unit {0}
Connected (p ∷ l) = (p.connection ≤ most_connection) × Connected l

module _ (n : ℕ) (hn : n < 2 ^ 64) where
  peers-well : (l : List Peer) → Connected l → Short n (map encode_peer l) → every well_formed (map encode_peer l) ≡ true
  unfolding every
  peers-well [] c s = refl
  peers-well (p ∷ l) c s = rw (peer-well p c.0 (omega arith)) (peers-well l c.1 s.1)

  peers-back : (l : List Peer) → Connected l → Short n (map encode_peer l) → map peer_of (map encode_peer l) ≡ l
  peers-back [] c s = refl
  peers-back (p ∷ l) c s = rw (peer-back p c.0 (omega arith), peers-back l c.1 s.1)

  held-well : (o : Option Record) → Short n (parts 3 (held_items o)) → every well_formed (parts 3 (held_items o)) ≡ true
  unfolding every held_items parts
  held-well None s = refl
  held-well (Some r) s = rw (record-well r (omega arith))

  held_back : (o : Option Record) → Short n (parts 3 (held_items o)) → merged (parts 3 (held_items o)) ≡ o
  unfolding merged joined held_items parts
  held_back None s = refl
  held_back (Some r) s = rw (append-nil (encode_record r), record-back r (omega arith))

held-good : (o : Option Record) → AllGood (held_items o)
unfolding held_items
held-good None = tt
held-good (Some r) = ((omega arith, omega arith), tt)

held-values : (g : ℕ) (o : Option Record) → values g (held_items o) ≡ []
unfolding held_items values
held-values g None = refl
held-values g (Some r) = refl

held-parts : (g : ℕ) → eqb 3 g ≡ false → (o : Option Record) → parts g (held_items o) ≡ []
unfolding held_items parts
held-parts g e None = refl
held-parts g e (Some r) = rw e

-- ---- a message
module _ (m : Message) where
  abbrev A : List Item
  A = single 2 m.key

  abbrev B : List Item
  B = held_items m.held

  abbrev C : List Item
  C = repeated 8 (map encode_peer m.closer)

  abbrev D : List Item
  D = repeated 9 (map encode_peer m.providers)

  split : (g : ℕ) → parts g (message_items m) ≡ parts g A ++ (parts g B ++ (parts g C ++ parts g D))
  unfolding message_items parts
  split g = rw (parts-append g A (B ++ (C ++ D)), parts-append g B (C ++ D), parts-append g C D)

  message-kind : last_of 0 (values 1 (message_items m)) ≡ m.kind
  unfolding message_items values last_of
  message-kind =
      rw (values-append 1 A (B ++ (C ++ D)), values-append 1 B (C ++ D), values-append 1 C D, values-single 2 1 m.key, held-values 1 m.held, values-repeated 8 1 (map encode_peer m.closer), values-repeated 9 1 (map encode_peer m.providers))

  of-key : parts 2 (message_items m) ≡ parts 2 A
  of-key = split 2 ∙ rw (held-parts 2 refl m.held, repeated-other 8 2 refl (map encode_peer m.closer), repeated-other 9 2 refl (map encode_peer m.providers)) (append-nil (parts 2 A))

  of-record : parts 3 (message_items m) ≡ parts 3 B
  of-record = split 3 ∙ rw (single-other 2 3 refl m.key, repeated-other 8 3 refl (map encode_peer m.closer), repeated-other 9 3 refl (map encode_peer m.providers)) (append-nil (parts 3 B))

  of-closer : parts 8 (message_items m) ≡ map encode_peer m.closer
  of-closer = split 8 ∙ rw (single-other 2 8 refl m.key, held-parts 8 refl m.held, repeated-same 8 refl (map encode_peer m.closer), repeated-other 9 8 refl (map encode_peer m.providers)) (append-nil (map encode_peer m.closer))

  of-providers : parts 9 (message_items m) ≡ map encode_peer m.providers
  of-providers = split 9 ∙ rw (single-other 2 9 refl m.key, held-parts 9 refl m.held, repeated-other 8 9 refl (map encode_peer m.closer), repeated-same 9 refl (map encode_peer m.providers))

  module _ (k : m.kind < 2 ^ 64) (c₁ : Connected m.closer) (c₂ : Connected m.providers) (h : length (encode m) < 2 ^ 64) where
    message-good : AllGood (message_items m)
    unfolding message_items
    message-good = (
      (omega arith, omega arith, k),
      good-append A _ (single-good 2 (omega arith) (omega arith) m.key)
          (good-append B _ (held-good m.held)
          (good-append C _ (repeated-good 8 (omega arith) (omega arith) (map encode_peer m.closer))
          (repeated-good 9 (omega arith) (omega arith) (map encode_peer m.providers)))),
    )

    short : (g : ℕ) → Short (length (encode m)) (parts g (message_items m))
    unfolding encode
    short g = parts-short g (length (encode m)) (message_items m) (omega arith)

    message-items : items (encode m) ≡ message_items m
    unfolding encode
    message-items = read_back (message_items m) message-good h

    message-well : well_message (encode m) ≡ true
    unfolding well_message well_formed all_of
    message-well =
        rw (
          message-items,
          good-well (message_items m) message-good,
          of-record,
          of-closer,
          of-providers,
          held-well (length (encode m)) h m.held (rw of-record at (short 3)),
          peers-well (length (encode m)) h m.closer c₁ (rw of-closer at (short 8)),
          peers-well (length (encode m)) h m.providers c₂ (rw of-providers at (short 9)),
        )

    message-back : message_of (encode m) ≡ m
    unfolding message_of
    message-back =
        rw (
          message-items,
          message-kind,
          of-key,
          of-record,
          of-closer,
          of-providers,
          single-same 2 refl m.key,
          held_back (length (encode m)) h m.held (rw of-record at (short 3)),
          peers-back (length (encode m)) h m.closer c₁ (rw of-closer at (short 8)),
          peers-back (length (encode m)) h m.providers c₂ (rw of-providers at (short 9)),
        )

    pub decode-encode : decode (encode m) ≡ Some m
    unfolding decode
    decode-encode = rw (message-well, message-back)

-- ---- within the limits
pub fits-connection : (p : Peer) → peer_fits p ≡ true → p.connection ≤ most_connection
unfolding peer_fits
fits-connection p e = leb-true _ _ (all_head _ _ (all_rest _ _ (all_rest _ _ (all_rest _ _ e))))

connected : (l : List Peer) → every peer_fits l ≡ true → Connected l
connected [] e = tt
connected (p ∷ l) e = (fits-connection p (every-head peer_fits p l e), connected l (every-tail peer_fits p l e))

-- what a message within the limits is, taken apart
pub record Fitting (m : Message) : Type 0 where
  pub kind : m.kind ≤ most_kind
  pub body : length (encode m) ≤ most_body
  pub closer : every peer_fits m.closer ≡ true
  pub providers : every peer_fits m.providers ≡ true

pub fitting : (m : Message) → writable m ≡ true → Fitting m
unfolding writable
fitting m e =
    let e₁ = all_rest _ _ e in
    let e₂ = all_rest _ _ e₁ in
    let e₃ = all_rest _ _ e₂ in
    let e₄ = all_rest _ _ e₃ in
    let e₅ = all_rest _ _ e₄ in
    record { kind = leb-true _ _ (all_head _ _ e); body = leb-true _ _ (all_head _ _ e₅); closer = all_head _ _ e₃; providers = all_head _ _ e₄ }

pub round_trip : RoundTrip
round_trip m e =
    let f = fitting m e in
    decode-encode m (omega (arith, f.kind)) (connected m.closer f.closer) (connected m.providers f.providers) (omega (arith, f.body))
