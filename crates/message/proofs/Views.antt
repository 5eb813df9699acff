-- The theorems of the reader: it gives the message that the definitions give, at positions inside the body, and refuses with 5 just what is malformed.
-- Assumes nothing.
use Prim.Native.Nat.{ℕ, zero, suc, ◌≤◌, ◌<◌}
use mathlib.Core.Path.{◌≡◌, refl, ap, ◌∙◌, subst}
use mathlib.Core.List.{List, [], ◌∷◌, map}
use mathlib.Core.Bool.{Bool, true, false, cond, not}
use native.Mathlib.Omega.{arith}
use lib.ListN.{length, take}
use lib.Dec.{ltb}
use borrow.Author.Tests.{ltb-true, ltb-false, lt-ltb, le-ltb}
use Rattle.octets.proofs.Lists.{map-take}
use Rattle.limits.specs.Limits.{most_body, most_kind, most_heard}
use Rattle.refusal.specs.declared.Refusal.TheVariants.{TooLong, Malformed, UnknownType}
use Rattle.wire.specs.Wire.{fields, fields_at, fields_in, spans, first_of, walk}
use Rattle.wire.specs.Items.{cut}
use Rattle.wire.specs.declared.Span.{Span}
use Rattle.wire.proofs.Scan.{walked}
use Rattle.message.specs.Message.{Peer, Message, message_of, well_message, decode}
use Rattle.message.specs.View.{fields_of, reading_of, id_at, closer_at, providers_at, addresses_at, heard_at, peer_meant, meant}
use Rattle.message.specs.declared.Fields.{Fields}
use Rattle.message.proofs.Meaning.{all-meant, closer-meant, FieldsIn, fields-inside, kind-meant}
use Rattle.std.specs.Prelude.{Ok, Err, Some, None, Result}
use Rattle.refusal.specs.declared.Refusal.{Refusal}

-- the reader's four answers, and what each comes with
data Answers (s : List ℕ) (r : Result Fields Refusal) : Type 0 where
  long : r ≡ Err TooLong → most_body < length s → Answers s r
  bad : r ≡ Err Malformed → length s ≤ most_body → well_message s ≡ false → Answers s r
  unknown : r ≡ Err UnknownType → length s ≤ most_body → well_message s ≡ true → most_kind < (fields_of s).kind → Answers s r
  whole : r ≡ Ok (fields_of s) → length s ≤ most_body → well_message s ≡ true → (fields_of s).kind ≤ most_kind → Answers s r

answers : (s : List ℕ) → Answers s (reading_of s)
unfolding reading_of
answers s = go (ltb most_body (length s)) refl (well_message s) refl (ltb most_kind (fields_of s).kind) refl
  where
    go : (a : Bool) → ltb most_body (length s) ≡ a → (b : Bool) → well_message s ≡ b → (c : Bool) → ltb most_kind (fields_of s).kind ≡ c
        → Answers s (cond a (Err TooLong) (cond (not b) (Err Malformed) (cond c (Err UnknownType) (Ok (fields_of s)))))
    go true p b q c r = long refl (ltb-true _ _ p)
    go false p false q c r = bad refl (ltb-false _ _ p) q
    go false p true q true r = unknown refl (ltb-false _ _ p) q (ltb-true _ _ r)
    go false p true q false r = whole refl (ltb-false _ _ p) q (ltb-false _ _ r)

module _ (s : List ℕ) where
  -- a message that is read: its parts are at those positions, its type is known
  pub record Read (m : Fields) : Type 0 where
    pub short : length s ≤ most_body
    pub well : well_message s ≡ true
    pub known : m.kind ≤ most_kind
    pub is : m ≡ fields_of s
    pub says : decode s ≡ Some (meant s m)
    pub lies : FieldsIn (length s) m

  decoded : well_message s ≡ true → decode s ≡ Some (meant s (fields_of s))
  unfolding decode
  decoded w = rw (w, all-meant s w)

  pub read_whole : (m : Fields) → reading_of s ≡ Ok m → Read m
  read_whole m e = go (reading_of s) e (answers s)
    where
      go : (r : Result Fields Refusal) → r ≡ Ok m → Answers s r → Read m
      go r q (long e h) = absurd (let z : ◌≡◌ {A = ℕ} 0 1 = cc in omega arith)
      go r q (bad e h w) = absurd (let z : ◌≡◌ {A = ℕ} 0 1 = cc in omega arith)
      go r q (unknown e h w k) = absurd (let z : ◌≡◌ {A = ℕ} 0 1 = cc in omega arith)
      go r q (whole e h w k) =
          let p : fields_of s ≡ m = cc in
          subst Read p (record { short = h; well = w; known = k; is = refl; says = decoded w; lies = fields-inside s })

  -- 5 is given exactly for what is malformed, among bodies that aren't too long
  pub read-malformed : reading_of s ≡ Err Malformed → decode s ≡ None
  unfolding decode
  read-malformed e = go (reading_of s) e (answers s)
    where
      go : (r : Result Fields Refusal) → r ≡ Err Malformed → Answers s r → cond (well_message s) (Some (message_of s)) None ≡ None
      go r q (long e h) = absurd (let z : ◌≡◌ {A = ℕ} 0 1 = cc in omega arith)
      go r q (bad e h w) = rw w
      go r q (unknown e h w k) = absurd (let z : ◌≡◌ {A = ℕ} 0 1 = cc in omega arith)
      go r q (whole e h w k) = absurd (let z : ◌≡◌ {A = ℕ} 0 1 = cc in omega arith)

  pub malformed-read : length s ≤ most_body → decode s ≡ None → reading_of s ≡ Err Malformed
  unfolding decode reading_of
  malformed-read h e = go (well_message s) refl
    where
      go : (b : Bool) → well_message s ≡ b → reading_of s ≡ Err Malformed
      go true q = absurd (let y : Some (message_of s) ≡ None = rw q at e in let z : ◌≡◌ {A = ℕ} 0 1 = cc in omega arith)
      go false q = rw (le-ltb most_body (length s) h, q)

  -- 6 is given for a well-formed body of another type
  pub read-unknown : reading_of s ≡ Err UnknownType → (decode s ≡ Some (message_of s)) × (most_kind < (message_of s).kind)
  unfolding decode
  read-unknown e = go (reading_of s) e (answers s)
    where
      go : (r : Result Fields Refusal) → r ≡ Err UnknownType → Answers s r → (cond (well_message s) (Some (message_of s)) None ≡ Some (message_of s)) × (most_kind < (message_of s).kind)
      go r q (long e h) = absurd (let z : ◌≡◌ {A = ℕ} 0 1 = cc in omega arith)
      go r q (bad e h w) = absurd (let z : ◌≡◌ {A = ℕ} 0 1 = cc in omega arith)
      go r q (unknown e h w k) = (rw w, omega (arith, kind-meant s))
      go r q (whole e h w k) = absurd (let z : ◌≡◌ {A = ℕ} 0 1 = cc in omega arith)

  -- ---- and the other way: what is too long gives 4, and of the rest what decodes to a message of another type gives 6, and what decodes to a known one is
  -- read as that message
  pub long-read : most_body < length s → reading_of s ≡ Err TooLong
  unfolding reading_of
  long-read h = rw (lt-ltb most_body (length s) h)

  decoded-is : (m : Message) → decode s ≡ Some m → (well_message s ≡ true) × (message_of s ≡ m)
  unfolding decode
  decoded-is m e = go (well_message s) refl
    where
      go : (b : Bool) → well_message s ≡ b → (well_message s ≡ true) × (message_of s ≡ m)
      go true q = (q, let z : Some (message_of s) ≡ Some m = rw q at e in cc)
      go false q = absurd (let y : None ≡ Some m = rw q at e in let z : ◌≡◌ {A = ℕ} 0 1 = cc in omega arith)

  pub unknown-read : (m : Message) → length s ≤ most_body → decode s ≡ Some m → most_kind < m.kind → reading_of s ≡ Err UnknownType
  unfolding reading_of
  unknown-read m h e k =
      let d = decoded-is m e in
      let j : most_kind < (fields_of s).kind = omega (arith, kind-meant s, ap (λ (x : Message). x.kind) d.1, k) in
      rw (le-ltb most_body (length s) h, d.0, lt-ltb most_kind (fields_of s).kind j)

  pub whole-read : (m : Message) → length s ≤ most_body → decode s ≡ Some m → m.kind ≤ most_kind → (reading_of s ≡ Ok (fields_of s)) × (meant s (fields_of s) ≡ m)
  unfolding reading_of
  whole-read m h e k =
      let d = decoded-is m e in
      let j : (fields_of s).kind ≤ most_kind = omega (arith, kind-meant s, ap (λ (x : Message). x.kind) d.1, k) in
      (rw (le-ltb most_body (length s) h, d.0, le-ltb most_kind (fields_of s).kind j), all-meant s d.0 ∙ d.1)

  -- ---- the walks

  -- `closer_peer` from 0, then from each end: all entries of closerPeers, in order
  pub closer-walked : walk (suc (length s)) (λ from. first_of (spans 8 (fields_at s from))) 0 ≡ closer_at s
  unfolding closer_at fields
  closer-walked = walked s 8 0

  pub providers-walked : walk (suc (length s)) (λ from. first_of (spans 9 (fields_at s from))) 0 ≡ providers_at s
  unfolding providers_at fields
  providers-walked = walked s 9 0

  -- `peer_address` from the peer's start, then from each end: all its addresses, in order
  pub addresses-walked : (p : Span)
      → walk (suc (length (take p.end s))) (λ from. first_of (spans 2 (fields_at (take p.end s) from))) p.at ≡ addresses_at s p
  unfolding addresses_at
  addresses-walked p = unfold fields_in in walked (take p.end s) 2 p.at

  ids : (l : List Span) → map (cut s) (map (id_at s) l) ≡ map (λ (p : Peer). p.id) (map (peer_meant s) l)
  unfolding peer_meant
  ids [] = refl
  ids (p ∷ l) = rw (ids l)

  -- the ids that `closer_ids` finds are those of the first 21 entries
  pub heard-meant : map (cut s) (heard_at s) ≡ map (λ (p : Peer). p.id) (take most_heard (message_of s).closer)
  unfolding heard_at
  heard-meant = rw (← closer-meant s, map-take (peer_meant s) most_heard (closer_at s), map-take (id_at s) most_heard (closer_at s)) (ids (take most_heard (closer_at s)))
