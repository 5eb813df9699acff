-- Whole replies: the pieces that are written one after another are the message with its prefix. Assumes nothing.
use Prim.Native.Nat.{ℕ, ◌+◌, ◌≤◌, ◌<◌}
use mathlib.Core.Path.{◌≡◌, refl, sym, ap, ap₂, subst, ◌∙◌}
use mathlib.Core.Bool.{Bool, true, false}
use mathlib.Core.List.{List, [], ◌∷◌, ◌++◌, map, append_assoc, append-nil}
use native.Mathlib.Omega.{arith}
use lib.ListN.{length, get_or, take, length-append, length-take}
use lib.Seq.{sets, get_or-take}
use borrow.Author.Tests.{le-leb}
use Rattle.octets.specs.Octets.{part, same}
use Rattle.octets.proofs.Bools.{cond_ind, all_none, all-one-more, same_way}
use Rattle.octets.proofs.Searching.{some_at, some-intro}
use Rattle.limits.specs.Limits.{most_value, most_near}
use Rattle.place.specs.Place.{is_place, place_of}
use Rattle.contacts.specs.Table.{slots_of, slot, place}
use Rattle.contacts.specs.Near.{sorted, nearest_slots, filled, nearest_of}
use Rattle.contacts.specs.declared.Closest.{Closest}
use Rattle.contacts.proofs.Sorting.{take-filled, length-filled}
use Rattle.peer.specs.declared.Peer as peers
use Rattle.records.specs.Store.{between, found}
use Rattle.refusal.specs.declared.Refusal.{Refusal}
use Rattle.wire.specs.Items.{Put, num, bytes, minimal, written, written1, single, repeated}
use Rattle.wire_put.proofs.Digits.{minimal-one, minimal-three}
use Rattle.wire_put.proofs.Putting.{put_on, put-start, number-length, bytes-length, single-full}
use Rattle.message.specs.Message.{Peer, Record, Message, encode_peer, held_items, encode, frame}
use Rattle.pieces.specs.Writable.{peer_fits, record_fits, record_piece, peer_piece, record_with}
use Rattle.pieces.proofs.Pieces.{record-piece, entries-more}
use Rattle.pieces.proofs.Sizes.{message-bytes, record-entry-most}
use Rattle.entries.specs.Entries.{peer_entry}
use Rattle.replies.specs.Replies.{closer_peers, listed, last_entry, find_node_reply, get_value_reply, put_value_reply, ping_reply}
use Rattle.replies.specs.Inner.{entries_to, lies_among, entry_bytes, reply_with}
use Rattle.replies.specs.Verdicts.{Framed}
use Rattle.pieces.specs.Sizes.{most_peer_field, most_record_field, most_peer_fields}
use Rattle.std.specs.Prelude.{Ok, Err, Some, None}

-- ---- a body after its prefix
two_bytes : (kind : ℕ) → kind ≤ 5 → length (written1 (num 1 kind)) ≡ 2
two_bytes kind h = omega (arith, number-length 1 kind (omega arith), minimal-one kind (omega arith))

module _ (m : Message) (n : ℕ) (en : n ≡ length (encode m)) where
  pub frame-size : length (minimal n) + n ≡ length (frame (encode m))
  unfolding frame
  frame-size = rw en (sym (length-append (minimal (length (encode m))) (encode m)))

  pub framed : (kind : ℕ) (rest : List ℕ) → encode m ≡ written1 (num 1 kind) ++ rest → (buf b₁ : List ℕ) (r₁ : ℕ) (b₂ : List ℕ) (r₂ : ℕ)
      → Put buf 0 (minimal n ++ written1 (num 1 kind)) b₁ r₁ → Put b₁ r₁ rest b₂ r₂ → (s : ℕ) → s ≡ length (minimal n) + n → Framed m buf b₂ s
  unfolding frame
  framed kind rest e buf b₁ r₁ b₂ r₂ p q s es =
      let w = put_on buf 0 (minimal n ++ written1 (num 1 kind)) b₁ r₁ rest b₂ r₂ p q in
      record { size = es ∙ frame-size; same = w.same ∙ ap (sets buf 0) whole }
    where
      whole : (minimal n ++ written1 (num 1 kind)) ++ rest ≡ frame (encode m)
      whole = append_assoc (minimal n) (written1 (num 1 kind)) rest ∙ rw (← e, en)

pub framed_is : (m n : Message) (buf buf₁ : List ℕ) (r : ℕ) → m ≡ n → Framed m buf buf₁ r → Framed n buf buf₁ r
framed_is m n buf buf₁ r e f = subst (λ (x : Message). Framed x buf buf₁ r) e f

-- the prefix and the type
pub begin-put : (buf : List ℕ) (n kind : ℕ) (b₁ : List ℕ) (r₁ : ℕ) (b₂ : List ℕ) (r₂ : ℕ) → Put buf 0 (minimal n) b₁ r₁ → Put b₁ r₁ (written1 (num 1 kind)) b₂ r₂
    → Put buf 0 (minimal n ++ written1 (num 1 kind)) b₂ r₂
begin-put buf n kind b₁ r₁ b₂ r₂ p q = put_on buf 0 (minimal n) b₁ r₁ (written1 (num 1 kind)) b₂ r₂ p q

pub prefix-short : (n : ℕ) → n ≤ 16384 → length (minimal n) ≤ 3
prefix-short n h = minimal-three n (omega arith)

-- ---- the bodies
no_key : written (single 2 []) ≡ []
unfolding single written
no_key = refl

no-held : written (held_items None) ≡ []
unfolding held_items written
no-held = refl

no-peers : (f : ℕ) → written (repeated f []) ≡ []
unfolding repeated written
no-peers f = refl

closer-bytes : (kind : ℕ) (l : List Peer) → encode (reply_with kind None l) ≡ written1 (num 1 kind) ++ entry_bytes l
unfolding reply_with entry_bytes
closer-bytes kind l = message-bytes (reply_with kind None l) ∙ rw (no_key, no-held, no-peers 9, append-nil (written (repeated 8 (map encode_peer l))))

held_bytes : (kind : ℕ) (r : Record) (l : List Peer) → record_fits r ≡ true → encode (reply_with kind (Some r) l) ≡ written1 (num 1 kind) ++ (record_piece r ++ entry_bytes l)
unfolding reply_with entry_bytes
held_bytes kind r l e = message-bytes (reply_with kind (Some r) l) ∙ rw (no_key, ← record-piece r e, no-peers 9, append-nil (written (repeated 8 (map encode_peer l))))

put-bytes : (key value : List ℕ) → (length key ≡ 0 → ⊥) → record_fits (record_with key value) ≡ true
    → encode (put_value_reply key value) ≡ written1 (num 1 0) ++ (written1 (bytes 2 key) ++ record_piece (record_with key value))
unfolding put_value_reply record_with
put-bytes key value z e =
    message-bytes (put_value_reply key value)
    ∙ rw (single-full 2 key z, ← record-piece (record_with key value) e, no-peers 8, no-peers 9, append-nil (record_piece (record_with key value)))

ping-bytes : encode ping_reply ≡ written1 (num 1 5) ++ []
unfolding ping_reply
ping-bytes = message-bytes ping_reply ∙ rw (no_key, no-held, no-peers 8, no-peers 9)

pub record-fits : (key value : List ℕ) → length key ≤ 128 → length value ≤ most_value → record_fits (record_with key value) ≡ true
unfolding record_fits record_with
record-fits key value h l = all-one-more _ _ (le-leb (length key) 128 h) (all-one-more _ _ (le-leb (length value) most_value l) all_none)

pub record-piece-most : (key value : List ℕ) → length key ≤ 128 → length value ≤ most_value → length (record_piece (record_with key value)) ≤ most_record_field
unfolding record_piece
record-piece-most key value h l = rw (record-fits key value h l) (record-entry-most (record_with key value) (record-fits key value h l))

-- ---- the replies, from their pieces
module _ (buf b₁ : List ℕ) (r₁ : ℕ) (b₂ : List ℕ) (r₂ s : ℕ) where
  pub closer-done : (kind : ℕ) (l : List Peer) (e : ℕ) → kind ≤ 5 → (e ≡ length (entry_bytes l)) × (e ≤ most_peer_fields)
      → Put buf 0 (minimal (2 + e) ++ written1 (num 1 kind)) b₁ r₁ → Put b₁ r₁ (entry_bytes l) b₂ r₂ → s ≡ length (minimal (2 + e)) + (2 + e)
      → Framed (reply_with kind None l) buf b₂ s
  closer-done kind l e h q p₁ p₂ es =
      let n : 2 + e ≡ length (encode (reply_with kind None l)) =
      omega (arith, ap length (closer-bytes kind l), length-append (written1 (num 1 kind)) (entry_bytes l), two_bytes kind h, q.0) in
      framed (reply_with kind None l) (2 + e) n kind (entry_bytes l) (closer-bytes kind l) buf b₁ r₁ b₂ r₂ p₁ p₂ s es

pub ping-done : (buf b₁ : List ℕ) (r₁ s : ℕ) → Put buf 0 (minimal 2 ++ written1 (num 1 5)) b₁ r₁ → s ≡ length (minimal 2) + 2 → Framed ping_reply buf b₁ s
ping-done buf b₁ r₁ s p es =
    let n : 2 ≡ length (encode ping_reply) = omega (arith, ap length ping-bytes, length-append (written1 (num 1 5)) [], two_bytes 5 (omega arith)) in
    framed ping_reply 2 n 5 [] ping-bytes buf b₁ r₁ b₁ r₁ p (put-start b₁ r₁) s es

module _ (buf b₁ : List ℕ) (r₁ : ℕ) (b₂ : List ℕ) (r₂ : ℕ) (b₃ : List ℕ) (r₃ s : ℕ) where
  pub last_done : (l : List Peer) (e o : ℕ) (p : Peer) → (e ≡ length (entry_bytes l)) × (e ≤ most_peer_fields) → (o ≡ length (peer_piece 8 p)) × (o ≤ most_peer_field) × (peer_fits p ≡ true)
      → Put buf 0 (minimal (2 + e + o) ++ written1 (num 1 4)) b₁ r₁ → Put b₁ r₁ (entry_bytes l) b₂ r₂ → Put b₂ r₂ (peer_piece 8 p) b₃ r₃ → s ≡ length (minimal (2 + e + o)) + (2 + e + o)
      → Framed (reply_with 4 None (l ++ (p ∷ []))) buf b₃ s
  last_done l e o p q qo p₁ p₂ p₃ es =
      let more : entry_bytes (l ++ (p ∷ [])) ≡ entry_bytes l ++ peer_piece 8 p = unfold entry_bytes in entries-more 8 l p qo.2 in
      let b : encode (reply_with 4 None (l ++ (p ∷ []))) ≡ written1 (num 1 4) ++ (entry_bytes l ++ peer_piece 8 p) = closer-bytes 4 (l ++ (p ∷ [])) ∙ ap (λ (x : List ℕ). written1 (num 1 4) ++ x) more in
      let n : 2 + e + o ≡ length (encode (reply_with 4 None (l ++ (p ∷ [])))) =
      omega (arith, ap length b, length-append (written1 (num 1 4)) (entry_bytes l ++ peer_piece 8 p), length-append (entry_bytes l) (peer_piece 8 p), two_bytes 4 (omega arith), q.0, qo.0) in
      framed (reply_with 4 None (l ++ (p ∷ []))) (2 + e + o) n 4 (entry_bytes l ++ peer_piece 8 p) b buf b₁ r₁ b₃ r₃ p₁
      (put_on b₁ r₁ (entry_bytes l) b₂ r₂ (peer_piece 8 p) b₃ r₃ p₂ p₃) s es

  pub held-done : (key value : List ℕ) (l : List Peer) (h e : ℕ) → length key ≤ 128 → length value ≤ most_value → h ≡ length (record_piece (record_with key value)) → (e ≡ length (entry_bytes l)) × (e ≤ most_peer_fields)
      → Put buf 0 (minimal (2 + h + e) ++ written1 (num 1 1)) b₁ r₁ → Put b₁ r₁ (record_piece (record_with key value)) b₂ r₂ → Put b₂ r₂ (entry_bytes l) b₃ r₃ → s ≡ length (minimal (2 + h + e)) + (2 + h + e)
      → Framed (reply_with 1 (Some (record_with key value)) l) buf b₃ s
  held-done key value l h e hk hv eh q p₁ p₂ p₃ es =
      let b : encode (reply_with 1 (Some (record_with key value)) l) ≡ written1 (num 1 1) ++ (record_piece (record_with key value) ++ entry_bytes l) = held_bytes 1 (record_with key value) l (record-fits key value hk hv) in
      let n : 2 + h + e ≡ length (encode (reply_with 1 (Some (record_with key value)) l)) =
      omega (arith, ap length b, length-append (written1 (num 1 1)) (record_piece (record_with key value) ++ entry_bytes l), length-append (record_piece (record_with key value)) (entry_bytes l), two_bytes 1 (omega arith), q.0) in
      framed (reply_with 1 (Some (record_with key value)) l) (2 + h + e) n 1 (record_piece (record_with key value) ++ entry_bytes l) b buf b₁ r₁ b₃ r₃ p₁
      (put_on b₁ r₁ (record_piece (record_with key value)) b₂ r₂ (entry_bytes l) b₃ r₃ p₂ p₃) s es

  pub echo-done : (key value : List ℕ) (v h : ℕ) → 1 ≤ length key → length key ≤ 128 → length value ≤ most_value → v ≡ length (minimal (length key)) → h ≡ length (record_piece (record_with key value))
      → Put buf 0 (minimal (2 + (1 + v + length key) + h) ++ written1 (num 1 0)) b₁ r₁ → Put b₁ r₁ (written1 (bytes 2 key)) b₂ r₂ → Put b₂ r₂ (record_piece (record_with key value)) b₃ r₃
      → s ≡ length (minimal (2 + (1 + v + length key) + h)) + (2 + (1 + v + length key) + h)
      → Framed (put_value_reply key value) buf b₃ s
  echo-done key value v h lo hk hv ev eh p₁ p₂ p₃ es =
      let b : encode (put_value_reply key value) ≡ written1 (num 1 0) ++ (written1 (bytes 2 key) ++ record_piece (record_with key value)) = put-bytes key value (λ z. omega arith) (record-fits key value hk hv) in
      let n : 2 + (1 + v + length key) + h ≡ length (encode (put_value_reply key value)) =
      omega (arith, ap length b, length-append (written1 (num 1 0)) (written1 (bytes 2 key) ++ record_piece (record_with key value)), length-append (written1 (bytes 2 key)) (record_piece (record_with key value)), two_bytes 0 (omega arith), bytes-length 2 key (omega arith)) in
      framed (put_value_reply key value) (2 + (1 + v + length key) + h) n 0 (written1 (bytes 2 key) ++ record_piece (record_with key value)) b buf b₁ r₁ b₃ r₃ p₁
      (put_on b₁ r₁ (written1 (bytes 2 key)) b₂ r₂ (record_piece (record_with key value)) b₃ r₃ p₂ p₃) s es

-- ---- the nearest contacts
pub nearest-few : (t x : List ℕ) → length (nearest_slots t x) ≤ 20
unfolding nearest_slots
nearest-few t x =
    cond_ind (λ (l : List ℕ). length l ≤ 20) (is_place x) (take most_near (sorted t x (slots_of t))) []
    (λ e. omega (arith, length-take most_near (sorted t x (slots_of t)))) (λ e. omega arith)

module _ (t x : List ℕ) (near : Closest) (e : near ≡ nearest_of t x) where
  near-count : near.n ≡ length (nearest_slots t x)
  unfolding nearest_of
  near-count = ap (λ (c : Closest). c.n) e

  near-list : near.at ≡ filled (nearest_slots t x)
  unfolding nearest_of
  near-list = ap (λ (c : Closest). c.at) e

  near-take : take near.n near.at ≡ nearest_slots t x
  near-take = ap₂ (λ (n : ℕ) (l : List ℕ). take n l) near-count near-list ∙ take-filled (nearest_slots t x) (nearest-few t x)

  pub near-few : near.n ≤ 20
  near-few = omega (arith, near-count, nearest-few t x)

  pub near-long : near.n ≤ length near.at
  near-long = omega (arith, near-few, ap length near-list, length-filled (nearest_slots t x))

  pub near-entries : entries_to t near.at near.n ≡ closer_peers t x
  unfolding entries_to closer_peers
  near-entries = rw near-take

  near-at : (k : ℕ) → k < near.n → get_or near.at k 0 ≡ get_or (nearest_slots t x) k 0
  near-at k h = sym (get_or-take near.n near.at k 0 h) ∙ ap (λ (l : List ℕ). get_or l k 0) near-take

  pub near-listed : lies_among t near.at near.n x ≡ listed t x
  unfolding lies_among listed
  near-listed =
      same_way _ _
      (λ q. let w = some_at _ near.n q in some-intro _ (length (nearest_slots t x)) w.0 (omega (arith, w.1, near-count)) (ap (λ (i : ℕ). same (place (slot t i)) x) (sym (near-at w.0 w.1)) ∙ w.2))
      (λ q. let w = some_at _ (length (nearest_slots t x)) q in let h : w.0 < near.n = omega (arith, w.1, near-count) in some-intro _ near.n w.0 h (ap (λ (i : ℕ). same (place (slot t i)) x) (near-at w.0 h) ∙ w.2))

-- ---- FIND_NODE
module _ (me who : peers.Peer) (t key x : List ℕ) (near : Closest) (ex : x ≡ place_of key) (e : near ≡ nearest_of t x) where
  abbrev L : List Peer
  L = entries_to t near.at near.n

  find-is : (last : List Peer) → last_entry me who t x ≡ last → reply_with 4 None (L ++ last) ≡ find_node_reply me who t key
  unfolding reply_with find_node_reply
  find-is last q = rw (near-entries t x near e, ← q, ex)

  module _ (b : Bool) (eb : b ≡ lies_among t near.at near.n x) where
    is-listed : b ≡ listed t x
    is-listed = eb ∙ near-listed t x near e

    pub find-listed : b ≡ true → reply_with 4 None L ≡ find_node_reply me who t key
    find-listed y = ap (reply_with 4 None) (sym (append-nil L)) ∙ find-is [] (unfold last_entry in rw (← is-listed, y))

    module _ (n : b ≡ false) (c : Bool) (ec : c ≡ same x me.place) where
      pub find-me : c ≡ true → reply_with 4 None (L ++ (peer_entry me ∷ [])) ≡ find_node_reply me who t key
      find-me y = find-is (peer_entry me ∷ []) (unfold last_entry in rw (← is-listed, n, ← ec, y))

      module _ (m : c ≡ false) (d : Bool) (ed : d ≡ same x who.place) where
        pub find-who : d ≡ true → reply_with 4 None (L ++ (peer_entry who ∷ [])) ≡ find_node_reply me who t key
        find-who y = find-is (peer_entry who ∷ []) (unfold last_entry in rw (← is-listed, n, ← ec, m, ← ed, y))

        pub find_none : d ≡ false → reply_with 4 None L ≡ find_node_reply me who t key
        find_none y = ap (reply_with 4 None) (sym (append-nil L)) ∙ find-is [] (unfold last_entry in rw (← is-listed, n, ← ec, m, ← ed, y))

-- ---- GET_VALUE
module _ (t k key x : List ℕ) (near : Closest) (ex : x ≡ place_of key) (e : near ≡ nearest_of t x) where
  pub get-held : (a z : ℕ) → found k key ≡ Ok (Some (between a z)) → reply_with 1 (Some (record_with key (part k a z))) (entries_to t near.at near.n) ≡ get_value_reply t k key
  unfolding reply_with get_value_reply record_with
  get-held a z q = rw (near-entries t x near e, q, ex)

  pub get_none : found k key ≡ Ok None → reply_with 1 None (entries_to t near.at near.n) ≡ get_value_reply t k key
  unfolding reply_with get_value_reply
  get_none q = rw (near-entries t x near e, q, ex)

  pub get_refused : (r : Refusal) → found k key ≡ Err r → reply_with 1 None (entries_to t near.at near.n) ≡ get_value_reply t k key
  unfolding reply_with get_value_reply
  get_refused r q = rw (near-entries t x near e, q, ex)
