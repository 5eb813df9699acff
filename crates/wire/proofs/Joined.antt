-- The fields of two strings that stand one after another: those of the first, then those of the second, where the first is well formed by itself.
-- Assumes nothing.
use Prim.Native.Nat.{ℕ, zero, suc, ◌+◌, ◌-◌, ◌/◌, ◌%◌, ◌^◌, ◌≤◌, ◌<◌}
use mathlib.Core.Path.{◌≡◌, refl, sym, ap, ap₂, subst, ◌∙◌}
use mathlib.Core.List.{List, [], ◌∷◌, ◌++◌, map, map-append}
use mathlib.Core.Bool.{Bool, true, false, cond}
use native.Mathlib.Omega.{arith}
use lib.ListN.{length, drop, length-append}
use lib.Seq.{take_all, take-append_seam, drop-append_seam, drop-append-le}
use lib.Dec.{leb, ltb, eqb}
use borrow.Author.Tests.{le-leb, lt-leb, leb-true, leb-false}
use Rattle.octets.specs.Search.{every}
use Rattle.octets.proofs.Bools.{not-both}
use Rattle.octets.proofs.Searching.{every-tail}
use Rattle.wire.specs.Wire.{before, varint, placed, varint_at, on_varint, end_at, on_ending, number_at, fixed_at, bytes_at, content_at, tagged_at, field_at, next_of, fields_at, fields, fields_in, fine, well, span_if, cons_found, spans}
use Rattle.wire.specs.Items.{cut, items, is_field, parts}
use Rattle.wire.specs.declared.Span.{Span}
use Rattle.wire.specs.declared.Field.{Field}
use Rattle.wire.specs.declared.Field.TheVariants.{End, Bad as Malformed, Number, Bytes, Other}
use Rattle.wire.specs.declared.Next.{Next}
use Rattle.wire.specs.declared.Next.TheVariants.{Done, Broken, On}
use Rattle.wire.proofs.Reach.{varint-reach, field_next}
use Rattle.wire.proofs.Scan.{at_done, at-broken, at_on}
use Rattle.wire.proofs.Within.{items-well, items-parts, in_parts}
use Rattle.std.specs.Prelude.{Some, None, Option}

-- ---- what was read stays as it is when more bytes follow
abbrev SameVar : Option (ℕ × ℕ) → Option (ℕ × ℕ) → Type 0
SameVar (Some (v, n)) r = (Some (v, n)) ≡ r
SameVar None r = Unit {0}

abbrev SameEnd : Option ℕ → Option ℕ → Type 0
SameEnd (Some e) r = Some e ≡ r
SameEnd None r = Unit {0}

-- and a field that has been begun isn't the end
abbrev Same : Field → Field → Type 0
Same End g = ⊥
Same Malformed g = Unit {0}
Same (Number f v n) g = Number f v n ≡ g
Same (Bytes f p) g = Bytes f p ≡ g
Same (Other n) g = Other n ≡ g

before_same : (b : ℕ) (r q : Option (ℕ × ℕ)) → SameVar r q → SameVar (before b r) (before b q)
unfolding before
before_same b (Some (v, n)) q e = ap (before b) e
before_same b None q e = tt

varint-same : (k : ℕ) (s t : List ℕ) → SameVar (varint k s) (varint k (s ++ t))
unfolding varint
varint-same zero s t = tt
varint-same (suc k) [] t = tt
varint-same (suc k) (b ∷ s) t = go (ltb b 128) (varint-same k s t)
  where
    go : (c : Bool) → SameVar (varint k s) (varint k (s ++ t)) → SameVar (cond c (Some (b, 1)) (before b (varint k s))) (cond c (Some (b, 1)) (before b (varint k (s ++ t))))
    go true ih = refl
    go false ih = before_same b (varint k s) (varint k (s ++ t)) ih

placed_same : (at : ℕ) (r q : Option (ℕ × ℕ)) → SameVar r q → SameVar (placed at r) (placed at q)
unfolding placed
placed_same at (Some (v, n)) q e = subst (λ (x : Option (ℕ × ℕ)). SameVar (placed at (Some (v, n))) (placed at x)) e (go (ltb v (2 ^ 64)))
  where
    go : (c : Bool) → SameVar (cond c (Some (v, (at + n))) None) (cond c (Some (v, (at + n))) None)
    go true = refl
    go false = tt
placed_same at None q e = tt

on-var : (r q : Option (ℕ × ℕ)) (f g : ℕ → ℕ → Field) → SameVar r q → ((v n : ℕ) → r ≡ Some (v, n) → Same (f v n) (g v n)) → Same (on_varint r f Malformed) (on_varint q g Malformed)
on-var (Some (v, n)) q f g e h = subst (λ (x : Option (ℕ × ℕ)). Same (f v n) (on_varint x g Malformed)) e (h v n refl)
on-var None q f g e h = tt

on-end : (r q : Option ℕ) (f : ℕ → Field) → SameEnd r q → ((e : ℕ) → Same (f e) (f e)) → Same (on_ending r f Malformed) (on_ending q f Malformed)
on-end (Some e) q f h k = subst (λ (x : Option ℕ). Same (f e) (on_ending x f Malformed)) h (k e)
on-end None q f h k = tt

module _ (a b : List ℕ) where
  long : length a ≤ length (a ++ b)
  long = omega (arith, length-append a b)

  var-same : (at : ℕ) → at ≤ length a → SameVar (varint_at a at) (varint_at (a ++ b) at)
  unfolding varint_at
  var-same at h = rw (drop-append-le at a b h) (placed_same at (varint 10 (drop at a)) (varint 10 (drop at a ++ b)) (varint-same 10 (drop at a) b))

  end_same : (at size : ℕ) → SameEnd (end_at a at size) (end_at (a ++ b) at size)
  unfolding end_at
  end_same at size = go (leb (at + size) (length a)) refl
    where
      go : (c : Bool) → leb (at + size) (length a) ≡ c → SameEnd (cond c (Some (at + size)) None) (cond (leb (at + size) (length (a ++ b))) (Some (at + size)) None)
      go true e = rw (le-leb (at + size) (length (a ++ b)) (omega (arith, leb-true (at + size) (length a) e, long)))
      go false e = tt

  number_same : (at f : ℕ) → at ≤ length a → Same (number_at a at f) (number_at (a ++ b) at f)
  unfolding number_at
  number_same at f h = on-var (varint_at a at) (varint_at (a ++ b) at) (λ v n. Number f v n) (λ v n. Number f v n) (var-same at h) (λ v n e. refl)

  fixed_same : (at size : ℕ) → Same (fixed_at a at size) (fixed_at (a ++ b) at size)
  unfolding fixed_at
  fixed_same at size = on-end (end_at a at size) (end_at (a ++ b) at size) (λ e. Other e) (end_same at size) (λ e. refl)

  bytes_same : (at f : ℕ) → at ≤ length a → Same (bytes_at a at f) (bytes_at (a ++ b) at f)
  unfolding bytes_at
  bytes_same at f h =
      on-var (varint_at a at) (varint_at (a ++ b) at)
      (λ v n. on_ending (end_at a n v) (λ e. Bytes f (record { at = n; end = e })) Malformed)
      (λ v n. on_ending (end_at (a ++ b) n v) (λ e. Bytes f (record { at = n; end = e })) Malformed)
      (var-same at h)
      (λ v n q. on-end (end_at a n v) (end_at (a ++ b) n v) (λ e. Bytes f (record { at = n; end = e })) (end_same n v) (λ e. refl))

  content-same : (at f w : ℕ) → at ≤ length a → Same (content_at a at f w) (content_at (a ++ b) at f w)
  unfolding content_at
  content-same at f w h = cases (eqb f 0) (eqb w 0) (eqb w 1) (eqb w 2) (eqb w 5)
    where
      cases : (b₀ b₁ b₂ b₃ b₄ : Bool)
          → Same (cond b₀ Malformed (cond b₁ (number_at a at f) (cond b₂ (fixed_at a at 8) (cond b₃ (bytes_at a at f) (cond b₄ (fixed_at a at 4) Malformed)))))
          (cond b₀ Malformed (cond b₁ (number_at (a ++ b) at f) (cond b₂ (fixed_at (a ++ b) at 8) (cond b₃ (bytes_at (a ++ b) at f) (cond b₄ (fixed_at (a ++ b) at 4) Malformed)))))
      cases true b₁ b₂ b₃ b₄ = tt
      cases false true b₂ b₃ b₄ = number_same at f h
      cases false false true b₃ b₄ = fixed_same at 8
      cases false false false true b₄ = bytes_same at f h
      cases false false false false true = fixed_same at 4
      cases false false false false false = tt

  tagged-same : (at t n : ℕ) → n ≤ length a → Same (tagged_at a at t n) (tagged_at (a ++ b) at t n)
  unfolding tagged_at
  tagged-same at t n h = cases (ltb (at + 5) n) (leb (2 ^ 32) t)
    where
      cases : (b₀ b₁ : Bool)
          → Same (cond b₀ Malformed (cond b₁ Malformed (content_at a n (t / 8) (t % 8)))) (cond b₀ Malformed (cond b₁ Malformed (content_at (a ++ b) n (t / 8) (t % 8))))
      cases true b₁ = tt
      cases false true = tt
      cases false false = content-same n (t / 8) (t % 8) h

  field-same : (at : ℕ) → at < length a → Same (field_at a at) (field_at (a ++ b) at)
  unfolding field_at
  field-same at h =
      rw (lt-leb (length a) at h, lt-leb (length (a ++ b)) at (omega (arith, long)))
      (on-var (varint_at a at) (varint_at (a ++ b) at) (tagged_at a at) (tagged_at (a ++ b) at) (var-same at (omega arith))
      (λ t n e. tagged-same at t n (varint-reach a at t n e).1))

  -- ---- so the fields are those of the first, and then the ones from its end on
  same-on : (f g : Field) (n : ℕ) → Same f g → next_of f ≡ On n → f ≡ g
  unfolding next_of
  same-on End g n h e = absurd h
  same-on Malformed g n h e = absurd (let z : ◌≡◌ {A = ℕ} 0 1 = cc in omega arith)
  same-on (Number f v m) g n h e = h
  same-on (Bytes f p) g n h e = h
  same-on (Other m) g n h e = h

  same-done : (f g : Field) → Same f g → next_of f ≡ Done → ⊥
  unfolding next_of
  same-done End g h e = h
  same-done Malformed g h e = let z : ◌≡◌ {A = ℕ} 0 1 = cc in omega arith
  same-done (Number f v m) g h e = let z : ◌≡◌ {A = ℕ} 0 1 = cc in omega arith
  same-done (Bytes f p) g h e = let z : ◌≡◌ {A = ℕ} 0 1 = cc in omega arith
  same-done (Other m) g h e = let z : ◌≡◌ {A = ℕ} 0 1 = cc in omega arith

  broken-well : well (Malformed ∷ []) ≡ false
  unfolding well every
  broken-well = refl

  end-done : (at : ℕ) → length a ≤ at → next_of (field_at a at) ≡ Done
  unfolding field_at next_of
  end-done at h = rw (le-leb (length a) at h)

  from-joined : (k at : ℕ) → length a ≤ at + k → at ≤ length a → well (fields_at a at) ≡ true → fields_at (a ++ b) at ≡ fields_at a at ++ fields_at (a ++ b) (length a)
  unfolding well
  from-joined zero at l h w =
      let e : at ≡ length a = omega arith in
      rw (at_done a at (end-done at (omega arith)), e)
  from-joined (suc k) at l h w = ends (leb (length a) at) refl (λ n l' h' w'. from-joined k n (omega arith) h' w')
    where
      goes : (m : Next) → next_of (field_at a at) ≡ m → at < length a → ((n : ℕ) → at < n → n ≤ length a → well (fields_at a n) ≡ true → fields_at (a ++ b) n ≡ fields_at a n ++ fields_at (a ++ b) (length a))
          → fields_at (a ++ b) at ≡ fields_at a at ++ fields_at (a ++ b) (length a)
      goes Done e lt ih = absurd (same-done (field_at a at) (field_at (a ++ b) at) (field-same at lt) e)
      goes Broken e lt ih = absurd (not-both (well (fields_at a at)) w (rw (at-broken a at e) broken-well))
      goes (On n) e lt ih =
          let q : field_at a at ≡ field_at (a ++ b) at = same-on (field_at a at) (field_at (a ++ b) at) n (field-same at lt) e in
          let r = field_next a at n e in
          at_on (a ++ b) at n (ap next_of (sym q) ∙ e)
          ∙ ap₂ (λ (x : Field) (y : List Field). x ∷ y) (sym q) (ih n r.0 r.1 (every-tail fine (field_at a at) (fields_at a n) (rw (at_on a at n e) at w)))
          ∙ rw (at_on a at n e)

      ends : (c : Bool) → leb (length a) at ≡ c
          → ((n : ℕ) → at < n → n ≤ length a → well (fields_at a n) ≡ true → fields_at (a ++ b) n ≡ fields_at a n ++ fields_at (a ++ b) (length a))
          → fields_at (a ++ b) at ≡ fields_at a at ++ fields_at (a ++ b) (length a)
      ends true e ih =
          let q : at ≡ length a = omega (arith, leb-true (length a) at e) in
          rw (at_done a at (end-done at (leb-true (length a) at e)), q)
      ends false e ih = goes (next_of (field_at a at)) refl (leb-false (length a) at e) ih

-- ---- the bytes fields of one number
spans-append : (f : ℕ) (x y : List Field) → spans f (x ++ y) ≡ spans f x ++ spans f y
unfolding spans
spans-append f [] y = refl
spans-append f (g ∷ x) y = go (span_if f g) (spans-append f x y)
  where
    go : (r : Option Span) → spans f (x ++ y) ≡ spans f x ++ spans f y → cons_found r (spans f (x ++ y)) ≡ cons_found r (spans f x) ++ spans f y
    go (Some p) ih = rw ih
    go None ih = ih

module _ (a b : List ℕ) where
  abbrev first : Span
  first = record { at = 0; end = length a }

  abbrev second : Span
  second = record { at = length a; end = length (a ++ b) }

  first-is : cut (a ++ b) first ≡ a
  first-is = let e : length a - 0 ≡ length a = omega arith in rw e (take-append_seam a b)

  second_is : cut (a ++ b) second ≡ b
  second_is = rw (drop-append_seam a b) (take_all (length (a ++ b) - length a) b (omega (arith, length-append a b)))

  in-first : fields_in (a ++ b) first ≡ fields a
  unfolding fields_in fields
  in-first = rw (take-append_seam a b)

  in-second : fields_in (a ++ b) second ≡ fields_at (a ++ b) (length a)
  unfolding fields_in
  in-second = rw (take_all (length (a ++ b)) (a ++ b) (omega arith))

  fields-joined : well (fields a) ≡ true → fields (a ++ b) ≡ fields_in (a ++ b) first ++ fields_in (a ++ b) second
  unfolding fields
  fields-joined w = rw (in-first, in-second) (from-joined a b (length a) 0 (omega arith) (omega arith) w)

  pub parts-joined : every is_field (items a) ≡ true → (f : ℕ) → parts f (items (a ++ b)) ≡ parts f (items a) ++ parts f (items b)
  parts-joined w f =
      let l : length a ≤ length (a ++ b) = long a b in
      let x : map (cut (a ++ b)) (spans f (fields_in (a ++ b) first)) ≡ parts f (items a) = in_parts (a ++ b) first (omega arith) l f ∙ rw first-is in
      let y : map (cut (a ++ b)) (spans f (fields_in (a ++ b) second)) ≡ parts f (items b) = in_parts (a ++ b) second l (omega arith) f ∙ rw second_is in
      items-parts (a ++ b) f
      ∙ rw (fields-joined (sym (items-well a) ∙ w), spans-append f (fields_in (a ++ b) first) (fields_in (a ++ b) second), map-append (cut (a ++ b)) (spans f (fields_in (a ++ b) first)) (spans f (fields_in (a ++ b) second)), x, y)
