-- Laws of the first word of a place: it tells most places from another, and most buckets. Assumes nothing.
use Prim.Native.Nat.{ℕ, ◌<◌, ◌≤◌, min}
use mathlib.Core.Path.{◌≡◌, sym, ap, ◌∙◌}
use mathlib.Core.Logic.{⊎_elim}
use mathlib.Core.Bool.{true, false, not}
use mathlib.Core.List.{List}
use native.Mathlib.Omega.{arith}
use lib.Dec.{leb, eqb}
use lib.Bits.{bit_xor}
use lib.Count.{count_leading_zeros, leading_of_zero, leading_le}
use lib.ListN.{length}
use borrow.Author.Tests.{le-leb, leb-true, eqb-true, eqb-false, not-true}
use Rattle.octets.specs.Octets.{Bytes, part, number}
use Rattle.octets.proofs.Bools.{either, to-false, and_l, and_r, and-on, and-off}
use Rattle.place.specs.Place.{bits, bucket_of}
use Rattle.place.proofs.Buckets.{bucket-places, word_same, word-other}
use Rattle.contacts.specs.Table.{slots_of, slot, place}
use Rattle.contact_table.proofs.Cuts.{place-size, slot_whole, bytes-place}
use Rattle.contact_order.specs.Order.{is_at}
use Rattle.contact_order.specs.Inner.{Sieves, sifted_out}
use Rattle.contact_order.specs.declared.Sieve.{Sieve}
use Rattle.contact_order.proofs.Tests.{at_place}

-- a slot whose place begins with another word isn't that of the contact at p: q is the place that was cut out, x its first word
pub at_other : (p s q : List ℕ) (x first : ℕ) → x ≡ number (part q 0 8) → q ≡ place s → first ≡ number (part p 0 8) → (x ≡ first → ⊥) → false ≡ is_at p s
at_other p s q x first ex g ef z = sym (to-false (is_at p s) (λ h. z (ex ∙ ap (λ (l : List ℕ). number (part l 0 8)) (g ∙ at_place p s h) ∙ sym ef)))

-- ---- the sieve of a bucket
module _ (o : List ℕ) (b w : ℕ) (e : w ≡ number (part o 0 8)) where
  pub sieve-none : Sieves o b (record { word = w; bits = 65 })
  sieve-none = record { long = λ l. no l; word = e; bits = λ l. none l }
    where
      no : 65 ≤ 64 → length o ≡ 32
      no l = omega arith

      none : 65 ≤ 64 → 65 ≡ min b 64
      none l = omega arith

  pub sieve-far : length o ≡ 32 → 64 < b → Sieves o b (record { word = w; bits = 64 })
  sieve-far l h = record { long = λ _. l; word = e; bits = λ _. omega arith }

  pub sieve-near : length o ≡ 32 → b ≤ 64 → Sieves o b (record { word = w; bits = b })
  sieve-near l h = record { long = λ _. l; word = e; bits = λ _. omega arith }

-- ---- what it says of a place q that was cut out, whose first word is x
module _ (s : Sieve) (p : List ℕ) where
  pub sift-none : 64 < s.bits → false ≡ sifted_out s p
  unfolding sifted_out
  sift-none l = sym (and-off (leb s.bits 64) _ (to-false (leb s.bits 64) (λ h. bad (leb-true _ _ h))))
    where
      bad : s.bits ≤ 64 → ⊥
      bad h = omega arith

  pub sift-word : s.bits ≤ 64 → (q : List ℕ) (x : ℕ) → x ≡ number (part q 0 8) → q ≡ p → not (eqb (count_leading_zeros 64 (bit_xor x s.word)) s.bits) ≡ sifted_out s p
  unfolding sifted_out
  sift-word l q x e g =
      ap (λ (y : ℕ). not (eqb (count_leading_zeros 64 (bit_xor y s.word)) s.bits)) (e ∙ ap (λ (z : List ℕ). number (part z 0 8)) g)
      ∙ sym (and-on (leb s.bits 64) _ (le-leb _ _ l))

-- ---- what falls through is of another bucket
module _ (p o : List ℕ) (lp : length p ≡ 32) (hp : Bytes p) (ho : Bytes o) (b : ℕ) where
  abbrev between : ℕ
  between = bit_xor (number (part p 0 8)) (number (part o 0 8))

  first-bits : length o ≡ 32 → bucket_of p o ≡ b → count_leading_zeros 64 between ≡ min b 64
  first-bits lo e = ⊎_elim (λ z. all-shared (eqb-true _ _ z)) (λ z. some-shared (eqb-false _ _ z)) (either (eqb between 0))
    where
      all-shared : between ≡ 0 → count_leading_zeros 64 between ≡ min b 64
      all-shared z = omega (arith, ap (count_leading_zeros 64) z, leading_of_zero 64, bucket-places p o lp lo, word_same p o 0 (omega arith) (omega arith) hp ho z)

      some-shared : (between ≡ 0 → ⊥) → count_leading_zeros 64 between ≡ min b 64
      some-shared z = omega (arith, leading_le 64 between, bucket-places p o lp lo, word-other p o 0 (omega arith) (omega arith) hp ho z)

  sifted-far : (s : Sieve) → Sieves o b s → sifted_out s p ≡ true → bucket_of p o ≡ b → ⊥
  unfolding sifted_out
  sifted-far s h f e =
      let l : s.bits ≤ 64 = leb-true _ _ (and_l (leb s.bits 64) _ f) in
      eqb-false _ _ (not-true _ (and_r (leb s.bits 64) _ f)) (ap (λ (w : ℕ). count_leading_zeros 64 (bit_xor (number (part p 0 8)) w)) h.word ∙ first-bits (h.long l) e ∙ sym (h.bits l))

-- the same of slot i
pub slot-far : (t o : List ℕ) (i b : ℕ) → i < slots_of t → Bytes t → Bytes o → (s : Sieve) → Sieves o b s → sifted_out s (place (slot t i)) ≡ true → bucket_of (place (slot t i)) o ≡ b → ⊥
slot-far t o i b l ht ho = sifted-far (place (slot t i)) o (place-size t i (slot_whole t i l)) (bytes-place t i ht) ho b
