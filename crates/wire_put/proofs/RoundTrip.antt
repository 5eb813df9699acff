-- The fields that are written are the fields that are read. Assumes nothing.
use Prim.Native.Nat.{ℕ, zero, suc, ◌+◌, ◌-◌, ◌*◌, ◌/◌, ◌%◌, ◌^◌, ◌≤◌, ◌<◌}
use mathlib.Core.Path.{◌≡◌, refl, sym, ap, ◌∙◌}
use mathlib.Core.List.{List, [], ◌∷◌, ◌++◌, map, append_assoc, append-nil}
use mathlib.Core.Bool.{Bool, true, false, cond}
use native.Mathlib.Omega.{arith}
use lib.ListN.{length, drop, length-append}
use lib.Seq.{drop_at, take_at}
use lib.Dec.{ltb, eqb}
use borrow.Author.Tests.{lt-ltb, le-ltb, ltb-true, ltb-false, ne_eqb}
use Rattle.octets.specs.Octets.{part}
use Rattle.octets.specs.Search.{every, last_of}
use Rattle.wire.specs.Wire.{before, varint, placed, varint_at, number_at, bytes_at, content_at, field_at, next_of, fields_at, fields}
use Rattle.wire.specs.Items.{Item, num, bytes, skipped, bad, item, items, is_field, values, parts, digits, minimal, tagged, written1, written, single, repeated}
use Rattle.wire.specs.declared.Field.TheVariants.{Number, Bytes}
use Rattle.wire.proofs.Reading.{field_end, field-good, end-in}
use Rattle.wire.proofs.Scan.{at_done, at_on}
use Rattle.wire_put.specs.Claims.{AllGood, Claims}
use Rattle.wire_put.proofs.Digits.{digits_last, digits_more, fewer, digits-short, minimal-pos}
use Rattle.wire_put.proofs.Shortest.{shortest}
use Rattle.std.specs.Prelude.{Some}

-- ---- a varint is read back, whatever follows it
varint-last : (k v : ℕ) (post : List ℕ) → v < 128 → varint (suc k) (digits (suc k) v ++ post) ≡ (Some (v, (length (digits (suc k) v))))
unfolding varint
varint-last k v post l = rw (digits_last k v l, lt-ltb v 128 l)

varint-digits : (k v : ℕ) (post : List ℕ) → v < 128 ^ suc k → varint (suc k) (digits (suc k) v ++ post) ≡ (Some (v, (length (digits (suc k) v))))
unfolding varint before
varint-digits zero v post h = varint-last 0 v post (omega arith)
varint-digits (suc k) v post h = go (ltb v 128) refl (varint-digits k (v / 128) post)
  where
    go : (t : Bool) → ltb v 128 ≡ t → (v / 128 < 128 ^ suc k → varint (suc k) (digits (suc k) (v / 128) ++ post) ≡ (Some ((v / 128), (length (digits (suc k) (v / 128))))))
        → varint (suc (suc k)) (digits (suc (suc k)) v ++ post) ≡ (Some (v, (length (digits (suc (suc k)) v))))
    go true e ih = varint-last (suc k) v post (ltb-true _ _ e)
    go false e ih =
        let b : 128 ≤ v % 128 + 128 = omega arith in
        let q : v % 128 + 128 - 128 + 128 * (v / 128) ≡ v = omega arith in
        rw (digits_more (suc k) v (ltb-false _ _ e), le-ltb (v % 128 + 128) 128 b, ih (fewer (suc k) v h), q)

-- ---- s has the bytes `here` at `at`, and `post` after them
pub record At (s : List ℕ) (at : ℕ) (here post : List ℕ) : Type 0 where
  pub pre : List ℕ
  pub whole : s ≡ pre ++ (here ++ post)
  pub place : length pre ≡ at

at_first : (s : List ℕ) (at : ℕ) (a b post : List ℕ) → At s at (a ++ b) post → At s at a (b ++ post)
at_first s at a b post h = record { pre = h.pre; whole = h.whole ∙ rw append_assoc; place = h.place }

at_second : (s : List ℕ) (at : ℕ) (a b post : List ℕ) → At s at (a ++ b) post → At s (at + length a) b post
at_second s at a b post h =
    record {
      pre = h.pre ++ a;
      whole = h.whole ∙ simp append_assoc;
      place = omega (arith, length-append h.pre a, h.place);
    }

at_drop : (s : List ℕ) (at : ℕ) (a post : List ℕ) → At s at a post → drop at s ≡ a ++ post
at_drop s at a post h = rw h.whole (drop_at h.pre (a ++ post) at h.place)

at-end : (s : List ℕ) (at : ℕ) (a post : List ℕ) → At s at a post → length s ≡ at + length a + length post
at-end s at a post h = omega (arith, ap length h.whole, length-append h.pre (a ++ post), length-append a post, h.place)

pub read-varint : (s : List ℕ) (at v : ℕ) (post : List ℕ) → v < 2 ^ 64 → At s at (minimal v) post → varint_at s at ≡ Some (v, (at + length (minimal v)))
unfolding varint_at minimal placed
read-varint s at v post h a = rw (at_drop s at (minimal v) post a, varint-digits 9 v post (omega arith), lt-ltb v (2 ^ 64) h)

-- a tag, and what follows it
read-tag : (s : List ℕ) (at f w v : ℕ) (post : List ℕ) → 0 < f → f < 2 ^ 29 → w < 8 → At s at (tagged (f * 8 + w) v) post
    → (field_at s at ≡ content_at s (at + length (minimal (f * 8 + w))) f w) × At s (at + length (minimal (f * 8 + w))) (minimal v) post
unfolding tagged
read-tag s at f w v post p q l a =
    let t : ℕ = f * 8 + w in
    let a₁ = at_first s at (minimal t) (minimal v) post a in
    let few : length (minimal t) ≤ 5 = unfold minimal in digits-short 4 10 t (omega arith) in
    let in-s : at < length s = omega (arith, at-end s at (minimal t) (minimal v ++ post) a₁, minimal-pos t) in
    let d : t / 8 ≡ f = omega arith in
    let m : t % 8 ≡ w = omega arith in
    (sym (field-good s at t (at + length (minimal t)) in-s (read-varint s at t (minimal v ++ post) (omega arith) a₁) (omega arith) (omega arith)) ∙ rw (d, m), at_second s at (minimal t) (minimal v) post a)

read_number : (s : List ℕ) (at f v : ℕ) (post : List ℕ) → 0 < f → f < 2 ^ 29 → v < 2 ^ 64 → At s at (written1 (num f v)) post
    → field_at s at ≡ Number f v (at + length (written1 (num f v)))
unfolding written1 tagged number_at content_at
read_number s at f v post p q h a =
    let t : ℕ = f * 8 + 0 in
    let r = read-tag s at f 0 v post p q (omega arith) a in
    let e : at + length (minimal t) + length (minimal v) ≡ at + length (minimal t ++ minimal v) = omega (arith, length-append (minimal t) (minimal v)) in
    let z : f ≡ 0 → ⊥ = λ x. omega arith in
    r.0 ∙ rw (ne_eqb f 0 z, read-varint s (at + length (minimal t)) v post h r.1, e)

read-bytes : (s : List ℕ) (at f : ℕ) (b post : List ℕ) → 0 < f → f < 2 ^ 29 → length b < 2 ^ 64 → At s at (written1 (bytes f b)) post
    → field_at s at ≡ Bytes f (record { at = at + length (tagged (f * 8 + 2) (length b)); end = at + length (written1 (bytes f b)) })
unfolding written1 tagged bytes_at content_at
read-bytes s at f b post p q h a =
    let t : ℕ = f * 8 + 2 in
    let v : ℕ = length b in
    let r = read-tag s at f 2 v (b ++ post) p q (omega arith) (at_first s at (minimal t ++ minimal v) b post a) in
    let e₁ : at + length (minimal t) + length (minimal v) ≡ at + length (minimal t ++ minimal v) = omega (arith, length-append (minimal t) (minimal v)) in
    let e₂ : at + length (minimal t ++ minimal v) + v ≡ at + length ((minimal t ++ minimal v) ++ b) = omega (arith, length-append (minimal t ++ minimal v) b) in
    let fit : at + length (minimal t ++ minimal v) + v ≤ length s = omega (arith, at-end s at ((minimal t ++ minimal v) ++ b) post a, length-append (minimal t ++ minimal v) b) in
    let z : f ≡ 0 → ⊥ = λ x. omega arith in
    r.0 ∙ rw (ne_eqb f 0 z, read-varint s (at + length (minimal t)) v (b ++ post) h r.1, e₁, sym (end-in s (at + length (minimal t ++ minimal v)) v fit), e₂)

-- the bytes of a field that is written at a place
field-part : (s : List ℕ) (at f : ℕ) (b post : List ℕ) → At s at (written1 (bytes f b)) post
    → part s (at + length (tagged (f * 8 + 2) (length b))) (at + length (written1 (bytes f b))) ≡ b
unfolding written1
field-part s at f b post a =
    let n : List ℕ = tagged (f * 8 + 2) (length b) in
    let d = at_drop s (at + length n) b post (at_second s at n b post a) in
    let e : at + length (n ++ b) - (at + length n) ≡ length b = omega (arith, length-append n b) in
    rw (d, e) (take_at b post (length b) refl)

field-short : (s : List ℕ) (at f : ℕ) (b post : List ℕ) → At s at (written1 (bytes f b)) post → length b ≤ length s
unfolding written1
field-short s at f b post a =
    let n : List ℕ = tagged (f * 8 + 2) (length b) in
    omega (arith, at-end s at (n ++ b) post a, length-append n b)

seen : (s : List ℕ) (at : ℕ) (is : List Item) → length s < 2 ^ 64 → AllGood is → At s at (written is) [] → map (item s) (fields_at s at) ≡ is
unfolding written item next_of
seen s at [] h g a = rw (at_done s at (ap next_of (sym (field_end s at (omega (arith, at-end s at [] [] a))))))
seen s at (num f v ∷ is) h g a =
    let x : List ℕ = written1 (num f v) in
    let r = read_number s at f v (written is ++ []) g.0.0 g.0.1 g.0.2 (at_first s at x (written is) [] a) in
    rw (at_on s at (at + length x) (ap next_of r), r, seen s (at + length x) is h g.1 (at_second s at x (written is) [] a))
seen s at (bytes f b ∷ is) h g a =
    let x : List ℕ = written1 (bytes f b) in
    let a₁ = at_first s at x (written is) [] a in
    let l : length b < 2 ^ 64 = omega (arith, field-short s at f b (written is ++ []) a₁) in
    let r = read-bytes s at f b (written is ++ []) g.0.0 g.0.1 l a₁ in
    rw (at_on s at (at + length x) (ap next_of r), r, field-part s at f b (written is ++ []) a₁, seen s (at + length x) is h g.1 (at_second s at x (written is) [] a))
seen s at (skipped ∷ is) h g a = absurd g.0
seen s at (bad ∷ is) h g a = absurd g.0

-- the law of every round trip
pub read_back : (is : List Item) → AllGood is → length (written is) < 2 ^ 64 → items (written is) ≡ is
unfolding items fields
read_back is g h = seen (written is) 0 is h g (record { pre = []; whole = sym (append-nil _); place = refl })

pub claims : Claims
claims =
    record {
      varints = λ v pre post h. read-varint (pre ++ (minimal v ++ post)) (length pre) v post h (record { pre = pre; whole = refl; place = refl });
      shortest = shortest;
      fields = read_back;
    }

-- ---- lists of items
pub good-append : (a b : List Item) → AllGood a → AllGood b → AllGood (a ++ b)
good-append [] b g h = h
good-append (i ∷ a) b g h = (g.0, good-append a b g.1 h)

pub good-well : (is : List Item) → AllGood is → every is_field is ≡ true
unfolding every
good-well [] g = refl
good-well (num f v ∷ is) g = good-well is g.1
good-well (bytes f b ∷ is) g = good-well is g.1
good-well (skipped ∷ is) g = absurd g.0
good-well (bad ∷ is) g = absurd g.0

cons-cond : {A : Type 0} (t : Bool) (v : A) (r q : List A) → cond t (v ∷ (r ++ q)) (r ++ q) ≡ cond t (v ∷ r) r ++ q
cons-cond true v r q = refl
cons-cond false v r q = refl

pub values-append : (f : ℕ) (a b : List Item) → values f (a ++ b) ≡ values f a ++ values f b
unfolding values
values-append f [] b = refl
values-append f (num g v ∷ a) b = rw (values-append f a b) (cons-cond (eqb g f) v (values f a) (values f b))
values-append f (bytes g v ∷ a) b = values-append f a b
values-append f (skipped ∷ a) b = values-append f a b
values-append f (bad ∷ a) b = values-append f a b

pub parts-append : (f : ℕ) (a b : List Item) → parts f (a ++ b) ≡ parts f a ++ parts f b
unfolding parts
parts-append f [] b = refl
parts-append f (bytes g v ∷ a) b = rw (parts-append f a b) (cons-cond (eqb g f) v (parts f a) (parts f b))
parts-append f (num g v ∷ a) b = parts-append f a b
parts-append f (skipped ∷ a) b = parts-append f a b
parts-append f (bad ∷ a) b = parts-append f a b

-- each part is no longer than the whole
abbrev pub Short : ℕ → List (List ℕ) → Type 0
Short n [] = Unit {0}
Short n (b ∷ l) = (length b ≤ n) × Short n l

short-cond : (n : ℕ) (t : Bool) (b : List ℕ) (r : List (List ℕ)) → length b ≤ n → Short n r → Short n (cond t (b ∷ r) r)
short-cond n true b r h k = (h, k)
short-cond n false b r h k = k

pub parts-short : (f n : ℕ) (is : List Item) → length (written is) ≤ n → Short n (parts f is)
unfolding parts written written1
parts-short f n [] h = tt
parts-short f n (bytes g b ∷ is) h =
    let x : List ℕ = tagged (g * 8 + 2) (length b) in
    let l = length-append (x ++ b) (written is) in
    let k = length-append x b in
    short-cond n (eqb g f) b (parts f is) (omega arith) (parts-short f n is (omega arith))
parts-short f n (num g v ∷ is) h = parts-short f n is (omega (arith, length-append (tagged (g * 8 + 0) v) (written is)))
parts-short f n (skipped ∷ is) h = parts-short f n is h
parts-short f n (bad ∷ is) h = parts-short f n is h

-- ---- single and repeated fields
module _ (f : ℕ) where
  pub single-good : 0 < f → f < 2 ^ 29 → (b : List ℕ) → AllGood (single f b)
  unfolding single
  single-good p q [] = tt
  single-good p q (x ∷ b) = ((p, q), tt)

  pub repeated-good : 0 < f → f < 2 ^ 29 → (l : List (List ℕ)) → AllGood (repeated f l)
  unfolding repeated
  repeated-good p q [] = tt
  repeated-good p q (b ∷ l) = ((p, q), repeated-good p q l)

  pub values-single : (g : ℕ) (b : List ℕ) → values g (single f b) ≡ []
  unfolding single values
  values-single g [] = refl
  values-single g (x ∷ b) = refl

  pub values-repeated : (g : ℕ) (l : List (List ℕ)) → values g (repeated f l) ≡ []
  unfolding repeated values
  values-repeated g [] = refl
  values-repeated g (b ∷ l) = values-repeated g l

  pub single-other : (g : ℕ) → eqb f g ≡ false → (b : List ℕ) → parts g (single f b) ≡ []
  unfolding single parts
  single-other g e [] = refl
  single-other g e (x ∷ b) = rw e

  pub single-same : eqb f f ≡ true → (b : List ℕ) → last_of [] (parts f (single f b)) ≡ b
  unfolding single parts last_of
  single-same e [] = refl
  single-same e (x ∷ b) = rw e

  pub repeated-other : (g : ℕ) → eqb f g ≡ false → (l : List (List ℕ)) → parts g (repeated f l) ≡ []
  unfolding repeated parts
  repeated-other g e [] = refl
  repeated-other g e (b ∷ l) = rw e (repeated-other g e l)

  pub repeated-same : eqb f f ≡ true → (l : List (List ℕ)) → parts f (repeated f l) ≡ l
  unfolding repeated parts
  repeated-same e [] = refl
  repeated-same e (b ∷ l) = rw (e, repeated-same e l)
