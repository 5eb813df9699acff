-- What the code finds out about the field at a position, case by case. Assumes nothing.
use Prim.Native.Nat.{ℕ, ◌+◌, ◌/◌, ◌%◌, ◌^◌, ◌≤◌, ◌<◌}
use mathlib.Core.Path.{◌≡◌}
use mathlib.Core.List.{List}
use lib.ListN.{length}
use borrow.Author.Tests.{lt-ltb, le-ltb, le-leb, lt-leb, eq-eqb, ne_eqb}
use Rattle.wire.specs.Wire.{varint_at, end_at, number_at, fixed_at, bytes_at, content_at, tagged_at, field_at}
use Rattle.wire.specs.declared.Field.TheVariants.{End, Bad as Malformed}
use Rattle.std.specs.Prelude.{Some, None}

pub end-in : (s : List ℕ) (at size : ℕ) → at + size ≤ length s → Some (at + size) ≡ end_at s at size
unfolding end_at
end-in s at size h = rw (le-leb (at + size) (length s) h)

pub end-past : (s : List ℕ) (at size : ℕ) → length s < at + size → None ≡ end_at s at size
unfolding end_at
end-past s at size h = rw (lt-leb (at + size) (length s) h)

module _ (s : List ℕ) (at f w : ℕ) where
  pub content-none : f ≡ 0 → Malformed ≡ content_at s at f w
  unfolding content_at
  content-none e = rw (eq-eqb f 0 e)

  module _ (nz : f ≡ 0 → ⊥) where
    pub content-0 : w ≡ 0 → number_at s at f ≡ content_at s at f w
    unfolding content_at
    content-0 e = rw (ne_eqb f 0 nz, eq-eqb w 0 e)

    pub content-1 : w ≡ 1 → fixed_at s at 8 ≡ content_at s at f w
    unfolding content_at
    content-1 e = rw (ne_eqb f 0 nz, e)

    pub content-2 : w ≡ 2 → bytes_at s at f ≡ content_at s at f w
    unfolding content_at
    content-2 e = rw (ne_eqb f 0 nz, e)

    pub content-5 : w ≡ 5 → fixed_at s at 4 ≡ content_at s at f w
    unfolding content_at
    content-5 e = rw (ne_eqb f 0 nz, e)

    pub content-other : (w ≡ 0 → ⊥) → (w ≡ 1 → ⊥) → (w ≡ 2 → ⊥) → (w ≡ 5 → ⊥) → Malformed ≡ content_at s at f w
    unfolding content_at
    content-other a b d e = rw (ne_eqb f 0 nz, ne_eqb w 0 a, ne_eqb w 1 b, ne_eqb w 2 d, ne_eqb w 5 e)

pub field_end : (s : List ℕ) (at : ℕ) → length s ≤ at → End ≡ field_at s at
unfolding field_at
field_end s at h = rw (le-leb (length s) at h)

pub field-bad : (s : List ℕ) (at : ℕ) → at < length s → varint_at s at ≡ None → Malformed ≡ field_at s at
unfolding field_at
field-bad s at h e = rw (lt-leb (length s) at h, e)

module _ (s : List ℕ) (at t n : ℕ) (h : at < length s) (e : varint_at s at ≡ Some (t, n)) where
  field-tag : tagged_at s at t n ≡ field_at s at
  unfolding field_at
  field-tag = rw (lt-leb (length s) at h, e)

  pub field-long : at + 5 < n → Malformed ≡ field_at s at
  unfolding tagged_at
  field-long l = rw (← field-tag, lt-ltb (at + 5) n l)

  pub field-big : n ≤ at + 5 → 2 ^ 32 ≤ t → Malformed ≡ field_at s at
  unfolding tagged_at
  field-big l b = rw (← field-tag, le-ltb (at + 5) n l, le-leb (2 ^ 32) t b)

  pub field-good : n ≤ at + 5 → t < 2 ^ 32 → content_at s n (t / 8) (t % 8) ≡ field_at s at
  unfolding tagged_at
  field-good l b = rw (← field-tag, le-ltb (at + 5) n l, lt-leb (2 ^ 32) t b)
