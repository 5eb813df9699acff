-- The pieces of a message that are written one by one: a record, and a peer with the first n of four addresses. Assumes nothing.
use Prim.Native.Nat.{ℕ, zero, suc, ◌+◌, ◌*◌, ◌≤◌, ◌<◌}
use mathlib.Core.Path.{◌≡◌, refl, sym, ap, ◌∙◌}
use mathlib.Core.List.{List, [], ◌∷◌, ◌++◌, map}
use mathlib.Core.Logic.{⊎_elim}
use mathlib.Core.Bool.{Bool, true, false, not, ◌&&◌, and-true}
use native.Mathlib.Omega.{arith}
use lib.ListN.{length, take, length-append, length-take}
use lib.Seq.{take-nil}
use lib.Dec.{leb, ltb}
use borrow.Author.Tests.{leb-true, leb-false, le-leb, lt-leb, lt-ltb, le-ltb}
use Rattle.octets.proofs.Searching.{every-append-is}
use Rattle.octets.specs.Search.{every, all_of}
use Rattle.octets.proofs.Bools.{either, and_l, and_r, and_assoc, not-both}
use Rattle.limits.specs.Limits.{most_id, most_address, most_key, most_value, most_connection}
use Rattle.wire.specs.Items.{num, bytes, minimal, tagged, written1, written, single, repeated, Put}
use Rattle.wire_put.proofs.Digits.{minimal-one}
use Rattle.wire_put.proofs.Putting.{put_on, number-length, bytes-short, single-empty, single-full, written-append, written_one, repeated-append, repeated-snoc}
use Rattle.message.specs.Message.{Peer, Record, encode_peer, encode_record, held_items, frame}
use Rattle.pieces.specs.Writable.{address_fits, peer_fits, record_fits, record_piece, peer_piece, record_with, peer_with}
use Rattle.pieces.specs.Inner.{nth, nth_bytes, nth_over, address_bytes, Fitting4}
use Rattle.octets.proofs.Lists.{map-append}
use Rattle.pieces.proofs.Sizes.{peer-bytes, record-bytes, fitting-record, fitting-peer, record-most, peer-most}
use Rattle.std.specs.Prelude.{Some}

-- ---- sizes of a field
pub field-sum : (f n x y : ℕ) → x ≡ length (minimal (f * 8 + 2)) → y ≡ length (minimal n) → x + y + n ≡ length (tagged (f * 8 + 2) n) + n
unfolding tagged
field-sum f n x y p q = omega (arith, length-append (minimal (f * 8 + 2)) (minimal n))

pub field-size : (f : ℕ) (b : List ℕ) (r : ℕ) → r ≡ length (tagged (f * 8 + 2) (length b)) + length b → r ≡ length (written1 (bytes f b))
unfolding written1
field-size f b r e = omega (arith, length-append (tagged (f * 8 + 2) (length b)) b)

pub single-none : (f : ℕ) (b : List ℕ) → length b ≡ 0 → (0 ≡ length (written (single f b))) × (0 ≤ 3 + length b)
single-none f b e = (ap length (sym (single-empty f b e)), omega arith)

pub single-size : (f : ℕ) (b : List ℕ) → f < 16 → length b ≤ most_value → (length b ≡ 0 → ⊥) → (r : ℕ) → r ≡ length (tagged (f * 8 + 2) (length b)) + length b
    → (r ≡ length (written (single f b))) × (r ≤ 3 + length b)
single-size f b h l z r e =
    let q = field-size f b r e in
    (q ∙ ap length (sym (single-full f b z)), omega (arith, bytes-short f b h (omega arith)))

-- ---- a record
module _ (key value : List ℕ) where
  pub record-no-key : most_key < length key → false ≡ record_fits (record_with key value)
  unfolding record_fits record_with all_of
  record-no-key h = rw (lt-leb (length key) most_key h)

  pub record-by-value : length key ≤ most_key → leb (length value) most_value ≡ record_fits (record_with key value)
  unfolding record_fits record_with all_of
  record-by-value h = rw (le-leb (length key) most_key h) (sym (and-true (leb (length value) most_value)))

  module _ (e : record_fits (record_with key value) ≡ true) where
    pub record-key-short : length key ≤ most_key
    record-key-short = unfold record_with in (fitting-record (record_with key value) e).key

    pub record-value-short : length value ≤ most_value
    record-value-short = unfold record_with in (fitting-record (record_with key value) e).value

    pub record-short : length (encode_record (record_with key value)) ≤ 16384
    record-short = omega (arith, record-most (record_with key value) e)

    piece_is : record_piece (record_with key value) ≡ written1 (bytes 3 (encode_record (record_with key value)))
    unfolding record_piece
    piece_is = rw e

    pub record-size : (n r : ℕ) → n ≡ length (encode_record (record_with key value)) → r ≡ length (tagged 26 n) + n → r ≡ length (record_piece (record_with key value))
    record-size n r en er = field-size 3 (encode_record (record_with key value)) r (rw en at er) ∙ ap length (sym piece_is)

    pub record-put : (buf : List ℕ) (at n : ℕ) → n ≡ length (encode_record (record_with key value)) → (buf₁ : List ℕ) (r₁ : ℕ) (buf₂ : List ℕ) (r₂ : ℕ) (buf₃ : List ℕ) (r₃ : ℕ)
        → Put buf at (tagged 26 n) buf₁ r₁ → Put buf₁ r₁ (written (single 1 key)) buf₂ r₂ → Put buf₂ r₂ (written (single 2 value)) buf₃ r₃
        → Put buf at (record_piece (record_with key value)) buf₃ r₃
    unfolding written1
    record-put buf at n en buf₁ r₁ buf₂ r₂ buf₃ r₃ p q s =
        let w : encode_record (record_with key value) ≡ written (single 1 key) ++ written (single 2 value) = unfold record_with in record-bytes (record_with key value) in
        let t = put_on buf₁ r₁ (written (single 1 key)) buf₂ r₂ (written (single 2 value)) buf₃ r₃ q s in
        let u : Put buf₁ r₁ (encode_record (record_with key value)) buf₃ r₃ = rw w t in
        rw piece_is (rw en at (put_on buf at (tagged 26 n) buf₁ r₁ (encode_record (record_with key value)) buf₃ r₃ p u))

  pub record-sum : (x y : ℕ) → x ≡ length (written (single 1 key)) → y ≡ length (written (single 2 value)) → x + y ≡ length (encode_record (record_with key value))
  unfolding record_with
  record-sum x y p q = rw (record-bytes (record_with key value)) (omega (arith, length-append (written (single 1 key)) (written (single 2 value))))

  pub record-none : record_fits (record_with key value) ≡ false → record_piece (record_with key value) ≡ []
  unfolding record_piece
  record-none e = rw e

-- ---- the first n of four addresses
nth-yes : (k n : ℕ) (a : List ℕ) → k < n → nth k n a ≡ a ∷ []
unfolding nth
nth-yes k n a h = rw (lt-ltb k n h)

nth-no : (k n : ℕ) (a : List ℕ) → n ≤ k → nth k n a ≡ []
unfolding nth
nth-no k n a h = rw (le-ltb k n h)

nth-all : (n : ℕ) (a b c d : List ℕ) → take n (a ∷ b ∷ c ∷ d ∷ []) ≡ nth 0 n a ++ (nth 1 n b ++ (nth 2 n c ++ nth 3 n d))
nth-all zero a b c d = rw (nth-no 0 0 a (omega arith), nth-no 1 0 b (omega arith), nth-no 2 0 c (omega arith), nth-no 3 0 d (omega arith))
nth-all (suc zero) a b c d = rw (nth-yes 0 1 a (omega arith), nth-no 1 1 b (omega arith), nth-no 2 1 c (omega arith), nth-no 3 1 d (omega arith))
nth-all (suc (suc zero)) a b c d = rw (nth-yes 0 2 a (omega arith), nth-yes 1 2 b (omega arith), nth-no 2 2 c (omega arith), nth-no 3 2 d (omega arith))
nth-all (suc (suc (suc zero))) a b c d = rw (nth-yes 0 3 a (omega arith), nth-yes 1 3 b (omega arith), nth-yes 2 3 c (omega arith), nth-no 3 3 d (omega arith))
nth-all (suc (suc (suc (suc n)))) a b c d =
    let m : ℕ = suc (suc (suc (suc n))) in
    rw (nth-yes 0 m a (omega arith), nth-yes 1 m b (omega arith), nth-yes 2 m c (omega arith), nth-yes 3 m d (omega arith), take-nil {A = List ℕ} n)

not-false : (b : Bool) → not b ≡ false → b ≡ true
not-false true e = refl
not-false false e = absurd (not-both true refl e)

not-true : (b : Bool) → not b ≡ true → b ≡ false
not-true true e = absurd (not-both false e refl)
not-true false e = refl

module _ (k n : ℕ) (a : List ℕ) where
  over-fits : nth_over k n a ≡ false → every address_fits (nth k n a) ≡ true
  unfolding nth_over
  over-fits e = not-false _ e

  over-not : nth_over k n a ≡ true → every address_fits (nth k n a) ≡ false
  unfolding nth_over
  over-not e = not-true _ e

  pub over_none : n ≤ k → false ≡ nth_over k n a
  unfolding nth_over every
  over_none h = rw (nth-no k n a h)

  pub over-some : k < n → ltb most_address (length a) ≡ nth_over k n a
  unfolding nth_over every address_fits
  over-some h = rw (nth-yes k n a h, and-true (leb (length a) most_address)) (flip most_address (length a))
    where
      flip : (m l : ℕ) → ltb m l ≡ not (leb l m)
      flip m l = ⊎_elim (λ t. le-ltb m l (leb-true l m t) ∙ rw t) (λ t. lt-ltb m l (leb-false l m t) ∙ rw t) (either (leb l m))

  pub over-short : nth_over k n a ≡ false → k < n → length a ≤ most_address
  over-short e h = ⊎_elim (λ t. leb-true (length a) most_address t) (λ t. absurd (bad t)) (either (leb (length a) most_address))
    where
      bad : leb (length a) most_address ≡ false → ⊥
      bad t = not-both (nth_over k n a) (sym (over-some h) ∙ lt-ltb most_address (length a) (leb-false _ _ t)) e

  pub nth-none : n ≤ k → nth_bytes k n a ≡ []
  unfolding nth_bytes repeated written
  nth-none h = rw (nth-no k n a h)

  pub nth-some : k < n → nth_bytes k n a ≡ written1 (bytes 2 a)
  unfolding nth_bytes repeated
  nth-some h = rw (nth-yes k n a h) (written_one (bytes 2 a))

  pub nth-size : nth_over k n a ≡ false → k < n → (r : ℕ) → r ≡ length (tagged 18 (length a)) + length a → (r ≡ length (nth_bytes k n a)) × (r ≤ 131)
  nth-size e h r q =
      let s = over-short e h in
      let z = field-size 2 a r q in
      (z ∙ ap length (sym (nth-some h)), omega (arith, bytes-short 2 a (omega arith) (omega arith)))

  pub nth-size-none : n ≤ k → (0 ≡ length (nth_bytes k n a)) × (0 ≤ 131)
  nth-size-none h = (ap length (sym (nth-none h)), omega arith)

module _ (n : ℕ) (a b c d : List ℕ) where
  pub four_bytes : address_bytes n a b c d ≡ nth_bytes 0 n a ++ (nth_bytes 1 n b ++ (nth_bytes 2 n c ++ nth_bytes 3 n d))
  unfolding address_bytes nth_bytes
  four_bytes =
      rw (
        nth-all n a b c d,
        repeated-append 2 (nth 0 n a) (nth 1 n b ++ (nth 2 n c ++ nth 3 n d)),
        repeated-append 2 (nth 1 n b) (nth 2 n c ++ nth 3 n d),
        repeated-append 2 (nth 2 n c) (nth 3 n d),
        written-append (repeated 2 (nth 0 n a)) (repeated 2 (nth 1 n b) ++ (repeated 2 (nth 2 n c) ++ repeated 2 (nth 3 n d))),
        written-append (repeated 2 (nth 1 n b)) (repeated 2 (nth 2 n c) ++ repeated 2 (nth 3 n d)),
        written-append (repeated 2 (nth 2 n c)) (repeated 2 (nth 3 n d)),
      )

  pub four-sum : (x y z w : ℕ) → (x ≡ length (nth_bytes 0 n a)) × (x ≤ 131) → (y ≡ length (nth_bytes 1 n b)) × (y ≤ 131) → (z ≡ length (nth_bytes 2 n c)) × (z ≤ 131) → (w ≡ length (nth_bytes 3 n d)) × (w ≤ 131)
      → (x + y + z + w ≡ length (address_bytes n a b c d)) × (x + y + z + w ≤ 524)
  four-sum x y z w p q r s =
      (rw four_bytes (omega (arith, p.0, q.0, r.0, s.0, length-append (nth_bytes 0 n a) (nth_bytes 1 n b ++ (nth_bytes 2 n c ++ nth_bytes 3 n d)), length-append (nth_bytes 1 n b) (nth_bytes 2 n c ++ nth_bytes 3 n d), length-append (nth_bytes 2 n c) (nth_bytes 3 n d))), omega (arith, p.1, q.1, r.1, s.1))

  pub four-put : (buf : List ℕ) (at : ℕ) (b₁ : List ℕ) (r₁ : ℕ) (b₂ : List ℕ) (r₂ : ℕ) (b₃ : List ℕ) (r₃ : ℕ) (b₄ : List ℕ) (r₄ : ℕ)
      → Put buf at (nth_bytes 0 n a) b₁ r₁ → Put b₁ r₁ (nth_bytes 1 n b) b₂ r₂ → Put b₂ r₂ (nth_bytes 2 n c) b₃ r₃ → Put b₃ r₃ (nth_bytes 3 n d) b₄ r₄
      → Put buf at (address_bytes n a b c d) b₄ r₄
  four-put buf at b₁ r₁ b₂ r₂ b₃ r₃ b₄ r₄ p q r s =
      let t = put_on b₂ r₂ (nth_bytes 2 n c) b₃ r₃ (nth_bytes 3 n d) b₄ r₄ r s in
      let u = put_on b₁ r₁ (nth_bytes 1 n b) b₂ r₂ (nth_bytes 2 n c ++ nth_bytes 3 n d) b₄ r₄ q t in
      rw four_bytes (put_on buf at (nth_bytes 0 n a) b₁ r₁ (nth_bytes 1 n b ++ (nth_bytes 2 n c ++ nth_bytes 3 n d)) b₄ r₄ p u)

  all-four : every address_fits (take n (a ∷ b ∷ c ∷ d ∷ []))
      ≡ (every address_fits (nth 0 n a) && (every address_fits (nth 1 n b) && (every address_fits (nth 2 n c) && every address_fits (nth 3 n d))))
  all-four =
      rw (nth-all n a b c d, every-append-is address_fits (nth 0 n a) (nth 1 n b ++ (nth 2 n c ++ nth 3 n d)), every-append-is address_fits (nth 1 n b) (nth 2 n c ++ nth 3 n d), every-append-is address_fits (nth 2 n c) (nth 3 n d))

-- ---- a peer
module _ (id : List ℕ) (n : ℕ) (a b c d : List ℕ) (connection : ℕ) where
  abbrev P : Peer
  P = peer_with id n a b c d connection

  E : Bool
  E = every address_fits (take n (a ∷ b ∷ c ∷ d ∷ []))

  fits-is : peer_fits P ≡ (leb (length id) most_id && (E && leb connection most_connection))
  unfolding peer_fits peer_with all_of E
  fits-is =
      let four : leb (length (take n (a ∷ b ∷ c ∷ d ∷ []))) 4 ≡ true = le-leb (length (take n (a ∷ b ∷ c ∷ d ∷ []))) 4 (omega (arith, length-take n (a ∷ b ∷ c ∷ d ∷ []))) in
      rw (four, and-true (leb connection most_connection))

  pub fits-no-id : most_id < length id → false ≡ peer_fits P
  fits-no-id h = rw (fits-is, lt-leb (length id) most_id h)

  no-addresses : length id ≤ most_id → E ≡ false → false ≡ peer_fits P
  no-addresses h e = rw (fits-is, le-leb (length id) most_id h, e)

  module _ (h : length id ≤ most_id) where
    pub fits-no-0 : nth_over 0 n a ≡ true → false ≡ peer_fits P
    unfolding E
    fits-no-0 e₀ = no-addresses h (rw (all-four n a b c d, over-not 0 n a e₀))

    module _ (e₀ : nth_over 0 n a ≡ false) where
      pub fits-no-1 : nth_over 1 n b ≡ true → false ≡ peer_fits P
      unfolding E
      fits-no-1 e₁ = no-addresses h (rw (all-four n a b c d, over-fits 0 n a e₀, over-not 1 n b e₁))

      module _ (e₁ : nth_over 1 n b ≡ false) where
        pub fits-no-2 : nth_over 2 n c ≡ true → false ≡ peer_fits P
        unfolding E
        fits-no-2 e₂ = no-addresses h (rw (all-four n a b c d, over-fits 0 n a e₀, over-fits 1 n b e₁, over-not 2 n c e₂))

        module _ (e₂ : nth_over 2 n c ≡ false) where
          pub fits-no-3 : nth_over 3 n d ≡ true → false ≡ peer_fits P
          unfolding E
          fits-no-3 e₃ = no-addresses h (rw (all-four n a b c d, over-fits 0 n a e₀, over-fits 1 n b e₁, over-fits 2 n c e₂, over-not 3 n d e₃))

          pub fits-by-connection : nth_over 3 n d ≡ false → leb connection most_connection ≡ peer_fits P
          unfolding E
          fits-by-connection e₃ = rw (fits-is, le-leb (length id) most_id h, all-four n a b c d, over-fits 0 n a e₀, over-fits 1 n b e₁, over-fits 2 n c e₂, over-fits 3 n d e₃)

  module _ (e : peer_fits P ≡ true) where
    pub id-short : length id ≤ most_id
    id-short = unfold peer_with in (fitting-peer P e).id

    pub connection-small : connection ≤ most_connection
    connection-small = unfold peer_with in (fitting-peer P e).connection

    pub four-fit : Fitting4 n a b c d
    unfolding nth_over
    four-fit =
        let e₀ : Bool = every address_fits (nth 0 n a) in
        let e₁ : Bool = every address_fits (nth 1 n b) in
        let e₂ : Bool = every address_fits (nth 2 n c) in
        let e₃ : Bool = every address_fits (nth 3 n d) in
        let v : (e₀ && (e₁ && (e₂ && e₃))) ≡ true = sym (all-four n a b c d) ∙ (unfold peer_with in (fitting-peer P e).addrs) in
        let w = and_r e₀ (e₁ && (e₂ && e₃)) v in
        let x = and_r e₁ (e₂ && e₃) w in
        record { first = ap not (and_l e₀ (e₁ && (e₂ && e₃)) v); second = ap not (and_l e₁ (e₂ && e₃) w); third = ap not (and_l e₂ e₃ x); fourth = ap not (and_r e₂ e₃ x) }

    pub peer-short : length (encode_peer P) ≤ 16384
    peer-short = omega (arith, peer-most P e)

    entry-is : (f : ℕ) → peer_piece f P ≡ written1 (bytes f (encode_peer P))
    unfolding peer_piece
    entry-is f = rw e

    bytes-are : encode_peer P ≡ written (single 1 id) ++ (address_bytes n a b c d ++ written1 (num 3 connection))
    unfolding peer_with address_bytes
    bytes-are = peer-bytes P

    pub peer-sum : (x y : ℕ) → x ≡ length (written (single 1 id)) → y ≡ length (address_bytes n a b c d) → x + y + 2 ≡ length (encode_peer P)
    peer-sum x y p q =
        let z : length (written1 (num 3 connection)) ≡ 2 = omega (arith, number-length 3 connection (omega arith), minimal-one connection (omega (arith, connection-small))) in
        rw bytes-are (omega (arith, length-append (written (single 1 id)) (address_bytes n a b c d ++ written1 (num 3 connection)), length-append (address_bytes n a b c d) (written1 (num 3 connection))))

    pub peer-size : (f m r : ℕ) → m ≡ length (encode_peer P) → r ≡ length (tagged (f * 8 + 2) m) + m → r ≡ length (peer_piece f P)
    peer-size f m r em er = field-size f (encode_peer P) r (rw em at er) ∙ ap length (sym (entry-is f))

    pub peer-put : (f : ℕ) (buf : List ℕ) (at m : ℕ) → m ≡ length (encode_peer P) → (b₁ : List ℕ) (r₁ : ℕ) (b₂ : List ℕ) (r₂ : ℕ) (b₃ : List ℕ) (r₃ : ℕ) (b₄ : List ℕ) (r₄ : ℕ)
        → Put buf at (tagged (f * 8 + 2) m) b₁ r₁ → Put b₁ r₁ (written (single 1 id)) b₂ r₂ → Put b₂ r₂ (address_bytes n a b c d) b₃ r₃ → Put b₃ r₃ (written1 (num 3 connection)) b₄ r₄
        → Put buf at (peer_piece f P) b₄ r₄
    unfolding written1
    peer-put f buf at m em b₁ r₁ b₂ r₂ b₃ r₃ b₄ r₄ p q s t =
        let u = put_on b₂ r₂ (address_bytes n a b c d) b₃ r₃ (written1 (num 3 connection)) b₄ r₄ s t in
        let v = put_on b₁ r₁ (written (single 1 id)) b₂ r₂ (address_bytes n a b c d ++ written1 (num 3 connection)) b₄ r₄ q u in
        let w : Put b₁ r₁ (encode_peer P) b₄ r₄ = rw bytes-are v in
        rw (entry-is f) (rw em at (put_on buf at (tagged (f * 8 + 2) m) b₁ r₁ (encode_peer P) b₄ r₄ p w))

  pub peer-none : peer_fits P ≡ false → (f : ℕ) → peer_piece f P ≡ []
  unfolding peer_piece
  peer-none e f = rw e

-- ---- pieces that fit make a message
pub record-piece : (r : Record) → record_fits r ≡ true → record_piece r ≡ written (held_items (Some r))
unfolding record_piece held_items
record-piece r e = rw e (sym (written_one (bytes 3 (encode_record r))))

pub peer-piece : (f : ℕ) (p : Peer) → peer_fits p ≡ true → peer_piece f p ≡ written1 (bytes f (encode_peer p))
unfolding peer_piece
peer-piece f p e = rw e

-- one entry more
pub entries-more : (f : ℕ) (l : List Peer) (p : Peer) → peer_fits p ≡ true
    → written (repeated f (map encode_peer (l ++ (p ∷ [])))) ≡ written (repeated f (map encode_peer l)) ++ peer_piece f p
entries-more f l p e = rw (map-append encode_peer l (p ∷ []), peer-piece f p e) (repeated-snoc f (map encode_peer l) (encode_peer p))

-- a body after its length prefix
pub frame-put : (out : List ℕ) (n : ℕ) (body out₁ : List ℕ) (r₁ : ℕ) (out₂ : List ℕ) (r₂ : ℕ) → n ≡ length body → Put out 0 (minimal n) out₁ r₁ → Put out₁ r₁ body out₂ r₂
    → Put out 0 (frame body) out₂ r₂
unfolding frame
frame-put out n body out₁ r₁ out₂ r₂ e p q = rw e at (put_on out 0 (minimal n) out₁ r₁ body out₂ r₂ p q)
