-- A whole message: its size from its parts, and its bytes from its pieces. Assumes nothing.
use Prim.Native.Nat.{ℕ, ◌+◌, ◌*◌, ◌≤◌, ◌<◌}
use mathlib.Core.Path.{◌≡◌, refl, sym, ap, ◌∙◌}
use mathlib.Core.Logic.{◌⊎◌, inl, inr, ⊎_elim}
use mathlib.Core.List.{List, [], ◌++◌}
use mathlib.Core.Bool.{Bool, true, false, cond}
use native.Mathlib.Omega.{arith}
use lib.ListN.{length, length-append}
use lib.Dec.{leb}
use borrow.Author.Tests.{le-leb, lt-ltb, le-ltb, leb-true, leb-false}
use Rattle.octets.specs.Search.{every}
use Rattle.octets.proofs.Bools.{either, to-false, not-both, all_head, all_rest, all-one-more, all_none}
use Rattle.limits.specs.Limits.{most_key, most_body, least_reply, most_kind}
use Rattle.refusal.specs.declared.Refusal.TheVariants.{SmallBuffer, Unwritable}
use Rattle.wire.specs.Items.{num, bytes, minimal, tagged, written1, written, single, Put}
use Rattle.wire_put.proofs.Digits.{minimal-one, minimal-three, minimal-pos}
use Rattle.wire_put.proofs.Putting.{put_on, put_is, put-end, number-length, bytes-length, bytes-short, single-empty, single-full}
use Rattle.message.specs.Message.{Record, Message, encode_record, held_items, encode, frame}
use Rattle.pieces.specs.Writable.{peer_fits, record_fits, held_fits, record_piece, record_with, writable}
use Rattle.pieces.proofs.Pieces.{record-piece}
use Rattle.pieces.proofs.Sizes.{message-bytes, message-length, held-most}
use Rattle.writer.specs.Writer.{peers_of, message_with, answer_of, out_after}
use Rattle.writer.specs.Inner.{entry_bytes, sized, pieces, held_size, held_piece, message_pieces, size_of}
use Rattle.writer.proofs.Counting.{sized-is, sized-over, pieces_are}
use Rattle.pieces.specs.Sizes.{most_record_field}
use Rattle.std.specs.Prelude.{Ok, Err, Some, None, Option}

-- ---- the key
pub key-none : (key : List ℕ) → length key ≡ 0 → (0 ≡ length (written (single 2 key))) × (0 ≤ 131)
key-none key e = (ap length (sym (single-empty 2 key e)), omega arith)

pub key-some : (key : List ℕ) → length key ≤ 128 → (length key ≡ 0 → ⊥) → (n : ℕ) → n ≡ length (minimal (length key))
    → (1 + n + length key ≡ length (written (single 2 key))) × (1 + n + length key ≤ 131)
key-some key h z n e =
    let b = bytes-length 2 key (omega arith) in
    (rw (single-full 2 key z) (omega (arith, e)), omega (arith, e, bytes-short 2 key (omega arith) (omega arith)))

-- ---- the record
record-bytes-some : (r : Record) → record_fits r ≡ true → 0 < length (record_piece r)
unfolding record_piece
record-bytes-some r e = rw e (unfold written1 tagged in omega (arith, length-append (minimal (3 * 8 + 2) ++ minimal (length (encode_record r))) (encode_record r), length-append (minimal (3 * 8 + 2)) (minimal (length (encode_record r))), minimal-pos (3 * 8 + 2)))

record-bytes-none : (r : Record) → record_fits r ≡ false → record_piece r ≡ []
unfolding record_piece
record-bytes-none r e = rw e

module _ (rkey value : List ℕ) where
  abbrev R : Record
  R = record_with rkey value

  abbrev held_of : Bool → Option Record
  held_of t = cond t (Some R) None

  pub held-no : (t : Bool) → t ≡ false → Some 0 ≡ held_size (held_of t)
  unfolding held_size held_fits held_items written
  held-no t e = rw e

  module _ (t : Bool) (e : t ≡ true) (n : ℕ) (en : n ≡ length (record_piece R)) where
    pub held-unfit : n ≡ 0 → None ≡ held_size (held_of t)
    unfolding held_size held_fits
    held-unfit z = rw (e, no)
      where
        no : record_fits R ≡ false
        no = to-false (record_fits R) (λ q. bad (record-bytes-some R q))
          where
            bad : 0 < length (record_piece R) → ⊥
            bad l = omega arith

    pub held-fit : (n ≡ 0 → ⊥) → Some n ≡ held_size (held_of t)
    unfolding held_size held_fits
    held-fit nz = rw (e, yes, en) (ap (λ (x : List ℕ). Some (length x)) (record-piece R yes))
      where
        yes : record_fits R ≡ true
        yes = ⊎_elim (λ q. q) (λ q. absurd (nz (en ∙ ap length (record-bytes-none R q)))) (either (record_fits R))

pub held-says : (o : Option Record) (n : ℕ) → held_size o ≡ Some n → (held_fits o ≡ true) × (n ≡ length (written (held_items o))) × (n ≤ most_record_field)
unfolding held_size
held-says o n e = go (held_fits o) refl
  where
    go : (t : Bool) → held_fits o ≡ t → (held_fits o ≡ true) × (n ≡ length (written (held_items o))) × (n ≤ most_record_field)
    go true q =
        let w : Some (length (written (held_items o))) ≡ Some n = rw q at e in
        let z : length (written (held_items o)) ≡ n = cc in
        (q, sym z, omega (arith, held-most o q))
    go false q = absurd (let w : None ≡ Some n = rw q at e in let z : ◌≡◌ {A = ℕ} 0 1 = cc in omega arith)

held-over : (o : Option Record) → held_size o ≡ None → held_fits o ≡ false
unfolding held_size
held-over o e = go (held_fits o) refl
  where
    go : (t : Bool) → held_fits o ≡ t → held_fits o ≡ false
    go true q = absurd (let w : Some (length (written (held_items o))) ≡ None = rw q at e in let z : ◌≡◌ {A = ℕ} 0 1 = cc in omega arith)
    go false q = q

-- ---- the message
module _ (m : Message) where
  -- what makes a message unwritable
  no-writable : (writable m ≡ true → ⊥) → None ≡ size_of m
  unfolding size_of
  no-writable h = rw (to-false (writable m) h)

  yes-writable : writable m ≡ true → Some (length (encode m)) ≡ size_of m
  unfolding size_of
  yes-writable w = rw w

  record Tests : Type 0 where
    pub kind : m.kind ≤ most_kind
    pub key : length m.key ≤ most_key
    pub held : held_fits m.held ≡ true
    pub closer : every peer_fits m.closer ≡ true
    pub providers : every peer_fits m.providers ≡ true
    pub body : length (encode m) ≤ most_body

  tests : writable m ≡ true → Tests
  unfolding writable
  tests e =
      let e₁ = all_rest _ _ e in
      let e₂ = all_rest _ _ e₁ in
      let e₃ = all_rest _ _ e₂ in
      let e₄ = all_rest _ _ e₃ in
      let e₅ = all_rest _ _ e₄ in
      record { kind = leb-true _ _ (all_head _ _ e); key = leb-true _ _ (all_head _ _ e₁); held = all_head _ _ e₂; closer = all_head _ _ e₃; providers = all_head _ _ e₄; body = leb-true _ _ (all_head _ _ e₅) }

  pass : Tests → writable m ≡ true
  unfolding writable
  pass t =
      all-one-more _ _ (le-leb _ _ t.kind) (all-one-more _ _ (le-leb _ _ t.key) (all-one-more _ _ t.held (all-one-more _ _ t.closer (all-one-more _ _ t.providers (all-one-more _ _ (le-leb _ _ t.body) all_none)))))

  pub over-kind : most_kind < m.kind → None ≡ size_of m
  over-kind h = no-writable (λ e. omega (arith, (tests e).kind))

  pub over-key : most_key < length m.key → None ≡ size_of m
  over-key h = no-writable (λ e. omega (arith, (tests e).key))

  pub over-held : held_size m.held ≡ None → None ≡ size_of m
  over-held h = no-writable (λ e. not-both (held_fits m.held) (tests e).held (held-over m.held h))

  pub over-closer : sized 8 0 m.closer ≡ None → None ≡ size_of m
  over-closer h = no-writable (λ e. go e (sized-over 8 m.closer h))
    where
      go : writable m ≡ true → (every peer_fits m.closer ≡ false) ⊎ (most_body < length (entry_bytes 8 m.closer)) → ⊥
      go e (inl q) = not-both (every peer_fits m.closer) (tests e).closer q
      go e (inr q) = unfold entry_bytes in omega (arith, (tests e).body, message-length m)

  pub over-providers : sized 9 0 m.providers ≡ None → None ≡ size_of m
  over-providers h = no-writable (λ e. go e (sized-over 9 m.providers h))
    where
      go : writable m ≡ true → (every peer_fits m.providers ≡ false) ⊎ (most_body < length (entry_bytes 9 m.providers)) → ⊥
      go e (inl q) = not-both (every peer_fits m.providers) (tests e).providers q
      go e (inr q) = unfold entry_bytes in omega (arith, (tests e).body, message-length m)

  module _ (hk : m.kind ≤ most_kind) (hl : length m.key ≤ most_key) (k h a b : ℕ) (ek : k ≡ length (written (single 2 m.key))) (eh : held_size m.held ≡ Some h) (ea : sized 8 0 m.closer ≡ Some a)
      (eb : sized 9 0 m.providers ≡ Some b) where
    sum_is : 2 + k + h + a + b ≡ length (encode m)
    unfolding entry_bytes
    sum_is =
        let p = held-says m.held h eh in
        let q = sized-is 8 m.closer a ea in
        let r = sized-is 9 m.providers b eb in
        let two : length (written1 (num 1 m.kind)) ≡ 2 = omega (arith, number-length 1 m.kind (omega arith), minimal-one m.kind (omega arith)) in
        omega (arith, message-length m, p.1, q.1, r.1)

    pub body_is : (z : Option ℕ) → z ≡ cond (leb (2 + k + h + a + b) most_body) (Some (2 + k + h + a + b)) None → z ≡ size_of m
    body_is z e = e ∙ go (leb (2 + k + h + a + b) most_body) refl
      where
        go : (t : Bool) → leb (2 + k + h + a + b) most_body ≡ t → cond (leb (2 + k + h + a + b) most_body) (Some (2 + k + h + a + b)) None ≡ size_of m
        go true q =
            let w : writable m ≡ true = pass (record { kind = hk; key = hl; held = (held-says m.held h eh).0; closer = (sized-is 8 m.closer a ea).0; providers = (sized-is 9 m.providers b eb).0; body = omega (arith, leb-true (2 + k + h + a + b) most_body q, sum_is) }) in
            rw (q, sum_is) (yes-writable w)
        go false q = rw q (no-writable (λ t. omega (arith, leb-false (2 + k + h + a + b) most_body q, sum_is, (tests t).body)))

-- ---- the bytes
module _ (kind : ℕ) (key : List ℕ) (held : Bool) (rkey value closer providers : List ℕ) where
  abbrev M : Message
  M = message_with kind key held rkey value closer providers

  held_bytes : held_fits (held_of rkey value held) ≡ true → held_piece held rkey value ≡ written (held_items (held_of rkey value held))
  unfolding held_piece held_fits
  held_bytes e = go held e
    where
      go : (t : Bool) → held_fits (held_of rkey value t) ≡ true → held_piece t rkey value ≡ written (held_items (held_of rkey value t))
      go true q = record-piece (R rkey value) q
      go false q = unfold held_items written in refl

  pub pieces_whole : writable M ≡ true → message_pieces kind key held rkey value closer providers ≡ encode M
  unfolding message_pieces message_with entry_bytes
  pieces_whole e =
      let t = tests M e in
      rw (held_bytes t.held, pieces_are 8 (peers_of closer) t.closer, pieces_are 9 (peers_of providers) t.providers) (sym (message-bytes M))

  module _ (n : ℕ) (e : size_of M ≡ Some n) where
    size-says : (writable M ≡ true) × (n ≡ length (encode M))
    unfolding size_of
    size-says = go (writable M) refl
      where
        go : (t : Bool) → writable M ≡ t → (writable M ≡ true) × (n ≡ length (encode M))
        go true q = let w : Some (length (encode M)) ≡ Some n = rw q at e in let z : length (encode M) ≡ n = cc in (q, sym z)
        go false q = absurd (let w : None ≡ Some n = rw q at e in let z : ◌≡◌ {A = ℕ} 0 1 = cc in omega arith)

    framed : minimal n ++ message_pieces kind key held rkey value closer providers ≡ frame (encode M)
    unfolding frame
    framed = rw (pieces_whole size-says.0, size-says.1)

    frame-short : length (frame (encode M)) ≤ least_reply
    unfolding frame
    frame-short =
        let b = (tests M size-says.0).body in
        omega (arith, length-append (minimal (length (encode M))) (encode M), minimal-three (length (encode M)) (omega arith))

    pub write_done : (out out₁ : List ℕ) (r : ℕ) → least_reply ≤ length out → Put out 0 (minimal n ++ message_pieces kind key held rkey value closer providers) out₁ r
        → (Ok r ≡ answer_of out M) × (out₁ ≡ out_after out M)
    unfolding answer_of out_after
    write_done out out₁ r h p =
        let q : Put out 0 (frame (encode M)) out₁ r = put_is out 0 _ (frame (encode M)) out₁ r framed p in
        let z : r ≡ 0 + length (frame (encode M)) = put-end out 0 (frame (encode M)) out₁ r q (omega (arith, frame-short)) in
        let y : r ≡ length (frame (encode M)) = omega arith in
        (rw (le-ltb (length out) least_reply h, size-says.0, y), q.same ∙ rw (le-ltb (length out) least_reply h, size-says.0))

  pub write-over : (out : List ℕ) → least_reply ≤ length out → size_of M ≡ None → (Err Unwritable ≡ answer_of out M) × (out ≡ out_after out M)
  unfolding answer_of out_after
  write-over out h e = (rw (le-ltb (length out) least_reply h, no), rw (le-ltb (length out) least_reply h, no))
    where
      no : writable M ≡ false
      no = to-false (writable M) (λ q. bad q)
        where
          bad : writable M ≡ true → ⊥
          bad q = unfold size_of in (let w : Some (length (encode M)) ≡ None = rw q at e in let z : ◌≡◌ {A = ℕ} 0 1 = cc in omega arith)

  pub write-small : (out : List ℕ) → length out < least_reply → (Err SmallBuffer ≡ answer_of out M) × (out ≡ out_after out M)
  unfolding answer_of out_after
  write-small out h = (rw (lt-ltb (length out) least_reply h), rw (lt-ltb (length out) least_reply h))

-- the pieces, one after another
pub six : (out a b c d e f o₁ o₂ o₃ o₄ o₅ o₆ : List ℕ) (r₁ r₂ r₃ r₄ r₅ r₆ : ℕ) → Put out 0 a o₁ r₁ → Put o₁ r₁ b o₂ r₂ → Put o₂ r₂ c o₃ r₃ → Put o₃ r₃ d o₄ r₄ → Put o₄ r₄ e o₅ r₅ → Put o₅ r₅ f o₆ r₆
    → Put out 0 (a ++ (b ++ (c ++ (d ++ (e ++ f))))) o₆ r₆
six out a b c d e f o₁ o₂ o₃ o₄ o₅ o₆ r₁ r₂ r₃ r₄ r₅ r₆ p q s t u v =
    put_on out 0 a o₁ r₁ (b ++ (c ++ (d ++ (e ++ f)))) o₆ r₆ p
    (put_on o₁ r₁ b o₂ r₂ (c ++ (d ++ (e ++ f))) o₆ r₆ q
    (put_on o₂ r₂ c o₃ r₃ (d ++ (e ++ f)) o₆ r₆ s (put_on o₃ r₃ d o₄ r₄ (e ++ f) o₆ r₆ t (put_on o₄ r₄ e o₅ r₅ f o₆ r₆ u v))))

pub piece-yes : (held : Bool) (rkey value : List ℕ) → held ≡ true → held_piece held rkey value ≡ record_piece (record_with rkey value)
unfolding held_piece
piece-yes held rkey value e = rw e

pub piece-no : (held : Bool) (rkey value : List ℕ) → held ≡ false → held_piece held rkey value ≡ []
unfolding held_piece
piece-no held rkey value e = rw e

-- ---- the same, from the parts that a caller hands over
module _ (kind : ℕ) (key : List ℕ) (held : Bool) (rkey value closer providers : List ℕ) where
  abbrev N : Message
  N = message_with kind key held rkey value closer providers

  pub body-kind : most_kind < kind → None ≡ size_of N
  body-kind h = over-kind N (unfold message_with in h)

  pub body-key : most_key < length key → None ≡ size_of N
  body-key h = over-key N (unfold message_with in h)

  pub body-held : held_size (held_of rkey value held) ≡ None → None ≡ size_of N
  body-held h = over-held N (unfold message_with in h)

  pub body-closer : sized 8 0 (peers_of closer) ≡ None → None ≡ size_of N
  body-closer h = over-closer N (unfold message_with in h)

  pub body-providers : sized 9 0 (peers_of providers) ≡ None → None ≡ size_of N
  body-providers h = over-providers N (unfold message_with in h)

  pub body-whole : kind ≤ most_kind → length key ≤ most_key → (k h a b : ℕ) → k ≡ length (written (single 2 key)) → held_size (held_of rkey value held) ≡ Some h → sized 8 0 (peers_of closer) ≡ Some a → sized 9 0 (peers_of providers) ≡ Some b
      → (z : Option ℕ) → z ≡ cond (leb (2 + k + h + a + b) most_body) (Some (2 + k + h + a + b)) None → z ≡ size_of N
  body-whole hk hl k h a b ek eh ea eb z e =
      body_is N (unfold message_with in hk) (unfold message_with in hl) k h a b (unfold message_with in ek) (unfold message_with in eh) (unfold message_with in ea) (unfold message_with in eb) z e

pub six-pieces : (out : List ℕ) (n kind : ℕ) (key : List ℕ) (held : Bool) (rkey value closer providers o₁ o₂ o₃ o₄ o₅ o₆ : List ℕ) (r₁ r₂ r₃ r₄ r₅ r₆ : ℕ)
    → Put out 0 (minimal n) o₁ r₁ → Put o₁ r₁ (written1 (num 1 kind)) o₂ r₂ → Put o₂ r₂ (written (single 2 key)) o₃ r₃ → Put o₃ r₃ (held_piece held rkey value) o₄ r₄ → Put o₄ r₄ (pieces 8 (peers_of closer)) o₅ r₅ → Put o₅ r₅ (pieces 9 (peers_of providers)) o₆ r₆
    → Put out 0 (minimal n ++ message_pieces kind key held rkey value closer providers) o₆ r₆
unfolding message_pieces
six-pieces out n kind key held rkey value closer providers o₁ o₂ o₃ o₄ o₅ o₆ r₁ r₂ r₃ r₄ r₅ r₆ p q s t u v =
    six out (minimal n) (written1 (num 1 kind)) (written (single 2 key)) (held_piece held rkey value) (pieces 8 (peers_of closer)) (pieces 9 (peers_of providers)) o₁ o₂ o₃ o₄ o₅ o₆ r₁ r₂ r₃ r₄ r₅ r₆ p q s t u v
