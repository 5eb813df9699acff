-- The one pass over a body's fields comes to what the definitions say. Assumes nothing.
use Prim.Native.Nat.{ℕ}
use mathlib.Core.Path.{◌≡◌, refl, sym, ◌∙◌}
use mathlib.Core.List.{List, ◌∷◌}
use mathlib.Core.Bool.{Bool, true, false}
use lib.ListN.{length, take}
use lib.Dec.{eqb}
use native.Mathlib.Omega.{arith}
use Prim.Native.Nat.{◌<◌, ◌≤◌}
use borrow.Author.Tests.{eqb-true, lt-ltb, le-ltb}
use Rattle.octets.specs.Search.{every, all_of, last_of}
use Rattle.octets.proofs.Bools.{and-fails}
use Rattle.limits.specs.Limits.{most_body, most_kind}
use Rattle.refusal.specs.declared.Refusal.TheVariants.{TooLong, Malformed, UnknownType}
use Rattle.wire.specs.Wire.{field_at, next_of, fields_at, fields, fields_in, fine, well, numbers, span_if, spans, nowhere}
use Rattle.wire.specs.declared.Span.{Span}
use Rattle.wire.specs.declared.Field.{Field}
use Rattle.wire.specs.declared.Field.TheVariants.{End, Bad, Number, Bytes, Other}
use Rattle.wire.specs.declared.Next.TheVariants.{Done, Broken as Stuck, On}
use Rattle.wire.proofs.Scan.{at_done, at-broken, at_on}
use Rattle.message.specs.Message.{well_message}
use Rattle.message.specs.View.{no_record, fields_of, reading_of}
use Rattle.message.specs.Inner.{well_in, with_occurrence, with_occurrences, with_record, with_peer, with_bytes, with_field, well_fields, finished, onto, gathered}
use Rattle.message.specs.declared.Fields.{Fields}
use Rattle.message.proofs.Occurrences.{occurrences-held}
use Rattle.message.proofs.Meaning.{well-body}
use Rattle.std.specs.Prelude.{Ok, Err, Some, None, Option}

-- ---- the parts of a turn

module _ (s t : List ℕ) (m : Fields) (p : Span) (e : t ≡ take p.end s) where
  module _ (w : Bool) (q : w ≡ well (fields_at t p.at)) where
    is-well : well_in s p ≡ w
    unfolding well_in fields_in
    is-well = sym (q ∙ rw e)

    pub record-sound : w ≡ true → (k v : Span) → k ≡ last_of m.held.key (spans 1 (fields_at t p.at)) → v ≡ last_of m.held.value (spans 2 (fields_at t p.at))
        → Some (record { kind = m.kind; key = m.key; held = record { there = true; key = k; value = v } }) ≡ with_record s m p
    unfolding with_record with_occurrence fields_in
    record-sound y k v ek ev = rw (is-well, y, ek, ev, e)

    pub record-broken : w ≡ false → None ≡ with_record s m p
    unfolding with_record
    record-broken n = rw (is-well, n)

    pub peer-sound : w ≡ true → Some m ≡ with_peer s m p
    unfolding with_peer
    peer-sound y = rw (is-well, y)

    pub peer-broken : w ≡ false → None ≡ with_peer s m p
    unfolding with_peer
    peer-broken n = rw (is-well, n)

-- ---- a field more

data Which (g : ℕ) : Type 0 where
  two : g ≡ 2 → Which g
  three : g ≡ 3 → Which g
  eight : g ≡ 8 → Which g
  nine : g ≡ 9 → Which g
  other : eqb g 2 ≡ false → eqb g 3 ≡ false → eqb g 8 ≡ false → eqb g 9 ≡ false → Which g

which : (g : ℕ) → Which g
which g = b (eqb g 2) refl
  where
    e : (t : Bool) → eqb g 9 ≡ t → eqb g 2 ≡ false → eqb g 3 ≡ false → eqb g 8 ≡ false → Which g
    e true h q r s = nine (eqb-true g 9 h)
    e false h q r s = other q r s h

    d : (t : Bool) → eqb g 8 ≡ t → eqb g 2 ≡ false → eqb g 3 ≡ false → Which g
    d true h q r = eight (eqb-true g 8 h)
    d false h q r = e (eqb g 9) refl q r h

    c : (t : Bool) → eqb g 3 ≡ t → eqb g 2 ≡ false → Which g
    c true h q = three (eqb-true g 3 h)
    c false h q = d (eqb g 8) refl q h

    b : (t : Bool) → eqb g 2 ≡ t → Which g
    b true h = two (eqb-true g 2 h)
    b false h = c (eqb g 3) refl h

module _ (s : List ℕ) (m : Fields) (fs : List Field) where
  Step : Field → Type 0
  Step f = finished s m (f ∷ fs) ≡ onto (with_field s m f) (λ q. finished s q fs)

  step-record : (p : Span) → Step (Bytes 3 p)
  unfolding Step finished with_field with_bytes with_record with_occurrences well_fields all_of well every numbers spans span_if last_of
  step-record p = go (well_in s p) refl
    where
      go : (t : Bool) → well_in s p ≡ t → finished s m (Bytes 3 p ∷ fs) ≡ onto (with_field s m (Bytes 3 p)) (λ q. finished s q fs)
      go true e = rw e
      go false e = rw (e, and-fails (every fine fs) false refl)

  step-closer : (p : Span) → Step (Bytes 8 p)
  unfolding Step finished with_field with_bytes with_peer well_fields all_of well every numbers spans span_if last_of
  step-closer p = go (well_in s p) refl
    where
      go : (t : Bool) → well_in s p ≡ t → finished s m (Bytes 8 p ∷ fs) ≡ onto (with_field s m (Bytes 8 p)) (λ q. finished s q fs)
      go true e = rw e
      go false e = rw (e, and-fails (every (well_in s) (spans 3 fs)) false refl, and-fails (every fine fs) false refl)

  step-provider : (p : Span) → Step (Bytes 9 p)
  unfolding Step finished with_field with_bytes with_peer well_fields all_of well every numbers spans span_if last_of
  step-provider p = go (well_in s p) refl
    where
      go : (t : Bool) → well_in s p ≡ t → finished s m (Bytes 9 p ∷ fs) ≡ onto (with_field s m (Bytes 9 p)) (λ q. finished s q fs)
      go true e = rw e
      go false e = rw (e, and-fails (every (well_in s) (spans 8 fs)) false refl, and-fails (every (well_in s) (spans 3 fs)) false refl, and-fails (every fine fs) false refl)

  step-bytes : (g : ℕ) (p : Span) → Which g → Step (Bytes g p)
  unfolding Step finished with_field with_bytes well_fields all_of well every numbers spans span_if last_of
  step-bytes g p (two h) = rw h
  step-bytes g p (three h) = rw h (step-record p)
  step-bytes g p (eight h) = rw h (step-closer p)
  step-bytes g p (nine h) = rw h (step-provider p)
  step-bytes g p (other o₂ o₃ o₈ o₉) = rw (o₂, o₃, o₈, o₉)

  step-number : (g v n : ℕ) (t : Bool) → eqb g 1 ≡ t → Step (Number g v n)
  unfolding Step finished with_field well_fields all_of well every numbers spans span_if last_of
  step-number g v n true e = rw e
  step-number g v n false e = rw e

  step : (f : Field) → Step f
  unfolding Step finished with_field well_fields all_of well every numbers spans span_if last_of
  step (Bytes g p) = step-bytes g p (which g)
  step (Number g v n) = step-number g v n (eqb g 1) refl
  step (Other n) = refl
  step End = refl
  step Bad = refl

-- ---- the loop

abbrev pub nothing : Fields
nothing = record { kind = 0; key = nowhere; held = no_record }

pub gather-start : (s : List ℕ) → finished s nothing (fields_at s 0) ≡ gathered s
unfolding finished gathered fields_of fields
gather-start s = rw (well-body s, occurrences-held s (spans 3 (fields_at s 0)))

module _ (s : List ℕ) (m : Fields) (at : ℕ) (g : finished s m (fields_at s at) ≡ gathered s) where
  pub gather-done : next_of (field_at s at) ≡ Done → Some m ≡ gathered s
  unfolding finished with_occurrences well_fields all_of well every numbers spans last_of
  gather-done e = rw (← g, at_done s at e)

  pub gather-stuck : next_of (field_at s at) ≡ Stuck → None ≡ gathered s
  unfolding finished well_fields all_of well every
  gather-stuck e = rw (← g, at-broken s at e)

  module _ (n : ℕ) (e : next_of (field_at s at) ≡ On n) (f : Field) (ef : f ≡ field_at s at) (r : Option Fields) (er : r ≡ with_field s m f) where
    turned : onto r (λ q. finished s q (fields_at s n)) ≡ gathered s
    unfolding Step
    turned = rw (er, ef) (sym (rw (at_on s at n e) (step s m (fields_at s n) (field_at s at))) ∙ g)

    pub gather-on : (q : Fields) → r ≡ Some q → finished s q (fields_at s n) ≡ gathered s
    gather-on q h = rw h at turned

    pub gather-broken : r ≡ None → None ≡ gathered s
    gather-broken h = rw h at turned

-- ---- the reader's cases

module _ (s : List ℕ) where
  pub read-long : most_body < length s → Err TooLong ≡ reading_of s
  unfolding reading_of
  read-long h = rw (lt-ltb most_body (length s) h)

  module _ (h : length s ≤ most_body) where
    pub read-broken : None ≡ gathered s → Err Malformed ≡ reading_of s
    unfolding reading_of gathered
    read-broken e = go (well_message s) refl
      where
        go : (t : Bool) → well_message s ≡ t → Err Malformed ≡ reading_of s
        go true q = absurd (let z : None ≡ Some (fields_of s) = rw q at e in let y : ◌≡◌ {A = ℕ} 0 1 = cc in omega arith)
        go false q = rw (le-ltb most_body (length s) h, q)

    module _ (m : Fields) (e : Some m ≡ gathered s) where
      whole_is : (well_message s ≡ true) × (m ≡ fields_of s)
      unfolding gathered
      whole_is = go (well_message s) refl
        where
          go : (t : Bool) → well_message s ≡ t → (well_message s ≡ true) × (m ≡ fields_of s)
          go true q = (q, let z : Some m ≡ Some (fields_of s) = rw q at e in cc)
          go false q = absurd (let z : Some m ≡ None = rw q at e in let y : ◌≡◌ {A = ℕ} 0 1 = cc in omega arith)

      pub read-unknown : most_kind < m.kind → Err UnknownType ≡ reading_of s
      unfolding reading_of
      read-unknown k = rw (le-ltb most_body (length s) h, whole_is.0, ← whole_is.1, lt-ltb most_kind m.kind k)

      pub read-sound : m.kind ≤ most_kind → Ok m ≡ reading_of s
      unfolding reading_of
      read-sound k = rw (le-ltb most_body (length s) h, whole_is.0, ← whole_is.1, le-ltb most_kind m.kind k)
