-- The fields of a part of a string, read in place: they are the fields of that part by itself, with their positions moved. Assumes nothing.
use Prim.Native.Nat.{ℕ, zero, suc, ◌+◌, ◌-◌, ◌/◌, ◌%◌, ◌^◌, ◌≤◌, ◌<◌}
use mathlib.Core.Path.{◌≡◌, refl, sym, ◌∙◌}
use mathlib.Core.List.{List, [], ◌∷◌, map}
use mathlib.Core.Bool.{Bool, true, false, cond}
use mathlib.Core.Logic.{⊎_elim}
use native.Mathlib.Omega.{arith}
use lib.ListN.{length, take, drop, length-drop}
use lib.Seq.{drop-drop, take-nil, length-take-le}
use lib.Dec.{leb, ltb, eqb}
use borrow.Author.Tests.{le-leb, lt-leb, leb-true, leb-false, ltb-true, ltb-false, lt-ltb, le-ltb}
use Rattle.octets.proofs.Parts.{drop-take, part-part, part_length}
use Rattle.octets.specs.Octets.{part}
use Rattle.octets.specs.Search.{every}
use Rattle.octets.proofs.Bools.{either, cond-ap}
use Rattle.wire.specs.Wire.{varint, placed, varint_at, on_varint, end_at, on_ending, number_at, fixed_at, bytes_at, content_at, tagged_at, field_at, next_of, more, fields_from, fields_at, fields, fields_in, well, numbers, span_if, cons_found, spans}
use Rattle.wire.specs.Items.{bytes, bad, cut, item, items, is_field, values, parts}
use Rattle.wire.specs.declared.Span.{Span}
use Rattle.wire.specs.declared.Field.{Field}
use Rattle.wire.specs.declared.Field.TheVariants.{End, Bad as Malformed, Number, Bytes, Other}
use Rattle.wire.proofs.Reach.{AllInside, spans-inside}
use Rattle.wire.proofs.Scan.{fuel-free}
use Rattle.std.specs.Prelude.{Some, None, Option}

-- ---- moved by a
abbrev moved_var : ℕ → Option (ℕ × ℕ) → Option (ℕ × ℕ)
moved_var a (Some (v, n)) = Some (v, (a + n))
moved_var a None = None

abbrev moved_end : ℕ → Option ℕ → Option ℕ
moved_end a (Some e) = Some (a + e)
moved_end a None = None

abbrev moved : ℕ → Field → Field
moved a End = End
moved a Malformed = Malformed
moved a (Number f v n) = Number f v (a + n)
moved a (Bytes f p) = Bytes f (record { at = a + p.at; end = a + p.end })
moved a (Other n) = Other (a + n)

-- ---- a test that moving leaves as it is
same-leb : (m n p q : ℕ) → (m ≤ n → p ≤ q) → (p ≤ q → m ≤ n) → leb m n ≡ leb p q
same-leb m n p q f g = ⊎_elim (λ t. t ∙ sym (le-leb p q (f (leb-true m n t)))) (λ t. t ∙ sym (lt-leb p q (no (leb-false m n t)))) (either (leb m n))
  where
    no : n < m → q < p
    no h = ⊎_elim (λ t. absurd (bad (g (leb-true p q t)) h)) (λ t. leb-false p q t) (either (leb p q))
      where
        bad : m ≤ n → n < m → ⊥
        bad x y = omega arith

same-ltb : (m n p q : ℕ) → (m < n → p < q) → (p < q → m < n) → ltb m n ≡ ltb p q
same-ltb m n p q f g = ⊎_elim (λ t. t ∙ sym (lt-ltb p q (f (ltb-true m n t)))) (λ t. t ∙ sym (le-ltb p q (no (ltb-false m n t)))) (either (ltb m n))
  where
    no : n ≤ m → q ≤ p
    no h = ⊎_elim (λ t. absurd (bad (g (ltb-true p q t)) h)) (λ t. ltb-false p q t) (either (ltb p q))
      where
        bad : m < n → n ≤ m → ⊥
        bad x y = omega arith

module _ (s : List ℕ) (a : ℕ) (h : a ≤ length s) where
  rest-is : length s ≡ a + length (drop a s)
  rest-is = omega (arith, length-drop a s)

  placed-moved : (i : ℕ) (r : Option (ℕ × ℕ)) → placed (a + i) r ≡ moved_var a (placed i r)
  unfolding placed
  placed-moved i (Some (v, n)) = let e : a + i + n ≡ a + (i + n) = omega arith in rw e (sym (cond-ap (moved_var a) (ltb v (2 ^ 64)) (Some (v, (i + n))) None))
  placed-moved i None = refl

  varint-moved : (i : ℕ) → varint_at s (a + i) ≡ moved_var a (varint_at (drop a s) i)
  unfolding varint_at
  varint-moved i = rw (← drop-drop i a s) (placed-moved i (varint 10 (drop i (drop a s))))

  end_moved : (i size : ℕ) → end_at s (a + i) size ≡ moved_end a (end_at (drop a s) i size)
  unfolding end_at
  end_moved i size =
      let e : a + i + size ≡ a + (i + size) = omega arith in
      let t : leb (a + i + size) (length s) ≡ leb (i + size) (length (drop a s)) = same-leb (a + i + size) (length s) (i + size) (length (drop a s)) (λ x. omega (arith, rest-is)) (λ x. omega (arith, rest-is)) in
      rw (t, e) (sym (cond-ap (moved_end a) (leb (i + size) (length (drop a s))) (Some (i + size)) None))

  number-moved : (i f : ℕ) → number_at s (a + i) f ≡ moved a (number_at (drop a s) i f)
  unfolding number_at
  number-moved i f = rw (varint-moved i) (go (varint_at (drop a s) i))
    where
      go : (r : Option (ℕ × ℕ)) → on_varint (moved_var a r) (λ v n. Number f v n) Malformed ≡ moved a (on_varint r (λ v n. Number f v n) Malformed)
      go (Some (v, n)) = refl
      go None = refl

  fixed_moved : (i size : ℕ) → fixed_at s (a + i) size ≡ moved a (fixed_at (drop a s) i size)
  unfolding fixed_at
  fixed_moved i size = rw (end_moved i size) (go (end_at (drop a s) i size))
    where
      go : (r : Option ℕ) → on_ending (moved_end a r) (λ e. Other e) Malformed ≡ moved a (on_ending r (λ e. Other e) Malformed)
      go (Some e) = refl
      go None = refl

  bytes-moved : (i f : ℕ) → bytes_at s (a + i) f ≡ moved a (bytes_at (drop a s) i f)
  unfolding bytes_at
  bytes-moved i f = rw (varint-moved i) (go (varint_at (drop a s) i))
    where
      ends : (n : ℕ) (r : Option ℕ) → on_ending (moved_end a r) (λ e. Bytes f (record { at = a + n; end = e })) Malformed ≡ moved a (on_ending r (λ e. Bytes f (record { at = n; end = e })) Malformed)
      ends n (Some e) = refl
      ends n None = refl

      go : (r : Option (ℕ × ℕ))
          → on_varint (moved_var a r) (λ v n. on_ending (end_at s n v) (λ e. Bytes f (record { at = n; end = e })) Malformed) Malformed
          ≡ moved a (on_varint r (λ v n. on_ending (end_at (drop a s) n v) (λ e. Bytes f (record { at = n; end = e })) Malformed) Malformed)
      go (Some (v, n)) = rw (end_moved n v) (ends n (end_at (drop a s) n v))
      go None = refl

  content-moved : (i f w : ℕ) → content_at s (a + i) f w ≡ moved a (content_at (drop a s) i f w)
  unfolding content_at
  content-moved i f w =
      rw (number-moved i f, fixed_moved i 8, bytes-moved i f, fixed_moved i 4)
      (cases (eqb f 0) (eqb w 0) (eqb w 1) (eqb w 2) (eqb w 5) (number_at (drop a s) i f) (fixed_at (drop a s) i 8) (bytes_at (drop a s) i f) (fixed_at (drop a s) i 4))
    where
      cases : (b₀ b₁ b₂ b₃ b₄ : Bool) (x y z u : Field)
          → cond b₀ Malformed (cond b₁ (moved a x) (cond b₂ (moved a y) (cond b₃ (moved a z) (cond b₄ (moved a u) Malformed))))
          ≡ moved a (cond b₀ Malformed (cond b₁ x (cond b₂ y (cond b₃ z (cond b₄ u Malformed)))))
      cases true b₁ b₂ b₃ b₄ x y z u = refl
      cases false true b₂ b₃ b₄ x y z u = refl
      cases false false true b₃ b₄ x y z u = refl
      cases false false false true b₄ x y z u = refl
      cases false false false false true x y z u = refl
      cases false false false false false x y z u = refl

  tagged-moved : (i t n : ℕ) → tagged_at s (a + i) t (a + n) ≡ moved a (tagged_at (drop a s) i t n)
  unfolding tagged_at
  tagged-moved i t n =
      let e : ltb (a + i + 5) (a + n) ≡ ltb (i + 5) n = same-ltb (a + i + 5) (a + n) (i + 5) n (λ x. omega arith) (λ x. omega arith) in
      rw (e, content-moved n (t / 8) (t % 8)) (cases (ltb (i + 5) n) (leb (2 ^ 32) t) (content_at (drop a s) n (t / 8) (t % 8)))
    where
      cases : (b₀ b₁ : Bool) (x : Field) → cond b₀ Malformed (cond b₁ Malformed (moved a x)) ≡ moved a (cond b₀ Malformed (cond b₁ Malformed x))
      cases true b₁ x = refl
      cases false true x = refl
      cases false false x = refl

  field-moved : (i : ℕ) → field_at s (a + i) ≡ moved a (field_at (drop a s) i)
  unfolding field_at
  field-moved i =
      let t : leb (length s) (a + i) ≡ leb (length (drop a s)) i = same-leb (length s) (a + i) (length (drop a s)) i (λ x. omega (arith, rest-is)) (λ x. omega (arith, rest-is)) in
      rw (t, varint-moved i) (cases (leb (length (drop a s)) i) (varint_at (drop a s) i))
    where
      tag : (r : Option (ℕ × ℕ)) → on_varint (moved_var a r) (tagged_at s (a + i)) Malformed ≡ moved a (on_varint r (tagged_at (drop a s) i) Malformed)
      tag (Some (t, n)) = tagged-moved i t n
      tag None = refl

      cases : (b : Bool) (r : Option (ℕ × ℕ)) → cond b End (on_varint (moved_var a r) (tagged_at s (a + i)) Malformed) ≡ moved a (cond b End (on_varint r (tagged_at (drop a s) i) Malformed))
      cases true r = refl
      cases false r = tag r

  from-moved : (k i : ℕ) → fields_from k s (a + i) ≡ map (moved a) (fields_from k (drop a s) i)
  unfolding fields_from more next_of
  from-moved zero i = refl
  from-moved (suc k) i = rw (field-moved i) (go (field_at (drop a s) i) (from-moved k))
    where
      go : (f : Field) → ((i : ℕ) → fields_from k s (a + i) ≡ map (moved a) (fields_from k (drop a s) i))
          → more (next_of (moved a f)) (moved a f) (λ n. fields_from k s n) ≡ map (moved a) (more (next_of f) f (λ n. fields_from k (drop a s) n))
      go End ih = refl
      go Malformed ih = refl
      go (Number f v n) ih = rw (ih n)
      go (Bytes f p) ih = rw (ih p.end)
      go (Other n) ih = rw (ih n)

  pub at_moved : fields_at s a ≡ map (moved a) (fields (drop a s))
  unfolding fields fields_at
  at_moved =
      let z : a + 0 ≡ a = omega arith in
      rw (← from-moved (suc (length (drop a s))) 0, z) (fuel-free s (length s) (length (drop a s)) a (omega arith) (omega (arith, rest-is)))

-- ---- what moving leaves as it is
abbrev moved_span : ℕ → Span → Span
moved_span a p = record { at = a + p.at; end = a + p.end }

module _ (a : ℕ) where
  well-moved : (fs : List Field) → well (map (moved a) fs) ≡ well fs
  unfolding well every
  well-moved [] = refl
  well-moved (End ∷ fs) = well-moved fs
  well-moved (Malformed ∷ fs) = refl
  well-moved (Number f v n ∷ fs) = well-moved fs
  well-moved (Bytes f p ∷ fs) = well-moved fs
  well-moved (Other n ∷ fs) = well-moved fs

  numbers-moved : (f : ℕ) (fs : List Field) → numbers f (map (moved a) fs) ≡ numbers f fs
  unfolding numbers
  numbers-moved f [] = refl
  numbers-moved f (End ∷ fs) = numbers-moved f fs
  numbers-moved f (Malformed ∷ fs) = numbers-moved f fs
  numbers-moved f (Number g v n ∷ fs) = rw (numbers-moved f fs)
  numbers-moved f (Bytes g p ∷ fs) = numbers-moved f fs
  numbers-moved f (Other n ∷ fs) = numbers-moved f fs

  spans-moved : (f : ℕ) (fs : List Field) → spans f (map (moved a) fs) ≡ map (moved_span a) (spans f fs)
  unfolding spans span_if
  spans-moved f [] = refl
  spans-moved f (End ∷ fs) = spans-moved f fs
  spans-moved f (Malformed ∷ fs) = spans-moved f fs
  spans-moved f (Number g v n ∷ fs) = spans-moved f fs
  spans-moved f (Bytes g p ∷ fs) = go (eqb g f) (spans-moved f fs)
    where
      go : (t : Bool) → spans f (map (moved a) fs) ≡ map (moved_span a) (spans f fs)
          → cons_found (cond t (Some (moved_span a p)) None) (spans f (map (moved a) fs)) ≡ map (moved_span a) (cons_found (cond t (Some p) None) (spans f fs))
      go true e = rw e
      go false e = e
  spans-moved f (Other n ∷ fs) = spans-moved f fs

-- ---- fields and what they say
module _ (s : List ℕ) where
  pub well-items : (fs : List Field) → every is_field (map (item s) fs) ≡ well fs
  unfolding well every item
  well-items [] = refl
  well-items (End ∷ fs) = well-items fs
  well-items (Malformed ∷ fs) = refl
  well-items (Number f v n ∷ fs) = well-items fs
  well-items (Bytes f p ∷ fs) = well-items fs
  well-items (Other n ∷ fs) = well-items fs

  pub values-fields : (f : ℕ) (fs : List Field) → values f (map (item s) fs) ≡ numbers f fs
  unfolding values numbers item
  values-fields f [] = refl
  values-fields f (End ∷ fs) = values-fields f fs
  values-fields f (Malformed ∷ fs) = values-fields f fs
  values-fields f (Number g v n ∷ fs) = rw (values-fields f fs)
  values-fields f (Bytes g p ∷ fs) = values-fields f fs
  values-fields f (Other n ∷ fs) = values-fields f fs

  pub parts-spans : (f : ℕ) (fs : List Field) → parts f (map (item s) fs) ≡ map (cut s) (spans f fs)
  unfolding parts spans span_if item
  parts-spans f [] = refl
  parts-spans f (End ∷ fs) = parts-spans f fs
  parts-spans f (Malformed ∷ fs) = parts-spans f fs
  parts-spans f (Number g v n ∷ fs) = parts-spans f fs
  parts-spans f (Bytes g p ∷ fs) = go (eqb g f) (parts-spans f fs)
    where
      go : (t : Bool) → parts f (map (item s) fs) ≡ map (cut s) (spans f fs)
          → cond t (cut s p ∷ parts f (map (item s) fs)) (parts f (map (item s) fs)) ≡ map (cut s) (cons_found (cond t (Some p) None) (spans f fs))
      go true e = rw e
      go false e = e
  parts-spans f (Other n ∷ fs) = parts-spans f fs

-- the fields of a string, by position and by what they say
module _ (s : List ℕ) where
  pub items-well : every is_field (items s) ≡ well (fields s)
  unfolding items
  items-well = well-items s (fields s)

  pub items-values : (f : ℕ) → values f (items s) ≡ numbers f (fields s)
  unfolding items
  items-values f = values-fields s f (fields s)

  pub items-parts : (f : ℕ) → parts f (items s) ≡ map (cut s) (spans f (fields s))
  unfolding items
  items-parts f = parts-spans s f (fields s)

-- ---- a part of a string, read in place
module _ (s : List ℕ) (p : Span) (h : p.at ≤ p.end) (l : p.end ≤ length s) where
  in_moved : fields_in s p ≡ map (moved p.at) (fields (cut s p))
  unfolding fields_in
  in_moved =
      let k : p.at ≤ length (take p.end s) = omega (arith, length-take-le p.end s l) in
      at_moved (take p.end s) p.at k ∙ rw (drop-take p.at p.end s)

  pub in-well : well (fields_in s p) ≡ every is_field (items (cut s p))
  in-well = rw in_moved (well-moved p.at (fields (cut s p)) ∙ sym (items-well (cut s p)))

  pub in-values : (f : ℕ) → numbers f (fields_in s p) ≡ values f (items (cut s p))
  in-values f = rw in_moved (numbers-moved p.at f (fields (cut s p)) ∙ sym (items-values (cut s p) f))

  cuts : (n : ℕ) (ps : List Span) → AllInside 0 (length (cut s p)) ps → map (cut s) (map (moved_span p.at) ps) ≡ map (cut (cut s p)) ps
  cuts n [] a = refl
  cuts n (q ∷ ps) a =
      let e : q.end ≤ p.end - p.at = omega (arith, a.0.ends, part_length s p.at p.end l) in
      rw (cuts n ps a.1, part-part s p.at p.end q.at q.end e)

  pub in_parts : (f : ℕ) → map (cut s) (spans f (fields_in s p)) ≡ parts f (items (cut s p))
  in_parts f =
      rw (in_moved, spans-moved p.at f (fields (cut s p)), items-parts (cut s p) f)
      (cuts 0 (spans f (fields (cut s p))) (unfold fields in spans-inside f (cut s p) 0))

  -- where its bytes fields are: in it, and so in s
  pub in-inside : (f : ℕ) → AllInside p.at (length s) (spans f (fields_in s p))
  unfolding fields_in
  in-inside f =
      let e : length (take p.end s) ≤ length s = omega (arith, length-take-le p.end s l) in
      longer (spans f (fields_in s p)) e (spans-inside f (take p.end s) p.at)
    where
      longer : (ps : List Span) → length (take p.end s) ≤ length s → AllInside p.at (length (take p.end s)) ps → AllInside p.at (length s) ps
      longer [] e a = tt
      longer (q ∷ ps) e a = (record { starts = a.0.starts; ordered = a.0.ordered; ends = omega (arith, a.0.ends) }, longer ps e a.1)
