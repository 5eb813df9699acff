-- Laws of buckets. Assumes nothing.
use Prim.Native.Nat.{ℕ, ◌+◌, ◌*◌, ◌^◌, ◌<◌, ◌≤◌}
use mathlib.Core.Path.{◌≡◌, sym, ap, ap₂, ◌∙◌, subst}
use mathlib.Core.Logic.{⊎_elim}
use mathlib.Core.Bool.{◌&&◌}
use mathlib.Core.List.{List, [], ◌++◌, append-nil}
use native.Mathlib.Omega.{arith}
use lib.Bits.{bit_xor, xor_lt, xor_self}
use lib.Count.{count_leading_zeros, leading_of_zero, leading_top}
use lib.ListN.{length, drop, drop_of_length-le}
use borrow.Author.Tests.{eq-eqb, ne_eqb}
use Rattle.octets.specs.Octets.{Bytes, part, number, same}
use Rattle.octets.proofs.Bools.{either, and-fails, cond_no}
use Rattle.octets.proofs.Parts.{bytes-part, part-size}
use Rattle.octets.proofs.Strings.{same-eq, differ}
use Rattle.octets.proofs.Numbers.{number_lt, number-inj, drop-word, word-inj}
use Rattle.place.specs.Place.{is_place, distance, bits, common, bucket_of}
use Rattle.place.proofs.Bits.{common-append, common-none, common-bytes, length-bits, bits-append, xor-zero, xor-pos}
use Rattle.place.proofs.Distance.{distance_self}

-- ---- what a bucket is
module _ (p o : List ℕ) where
  pub bucket-places : length p ≡ 32 → length o ≡ 32 → bucket_of p o ≡ common (bits p) (bits o)
  unfolding bucket_of is_place
  bucket-places hp ho = rw (eq-eqb (length p) 32 hp, eq-eqb (length o) 32 ho)

  pub bucket-not-left : (length p ≡ 32 → ⊥) → bucket_of p o ≡ 256
  unfolding bucket_of is_place
  bucket-not-left h = rw (ne_eqb (length p) 32 h)

  pub bucket-not-right : (length o ≡ 32 → ⊥) → bucket_of p o ≡ 256
  unfolding bucket_of is_place
  bucket-not-right h = cond_no (is_place p && is_place o) (common (bits p) (bits o)) 256 (and-fails (is_place p) (is_place o) (ne_eqb (length o) 32 h))

common-self : (s : List ℕ) → common (bits s) (bits s) ≡ length s * 8
common-self s = ap₂ common (sym (append-nil (bits s))) (sym (append-nil (bits s))) ∙ common-append (bits s) [] [] ∙ omega (arith, length-bits s, common-none)

pub bucket-self : (p : List ℕ) → length p ≡ 32 → bucket_of p p ≡ 256
bucket-self p h = bucket-places p p h h ∙ common-self p ∙ omega arith

-- two places that differ share as many bits as their distance has leading zeros
module _ (p o : List ℕ) (lp : length p ≡ 32) (lo : length o ≡ 32) (hp : Bytes p) (ho : Bytes o) where
  bucket-other : (p ≡ o → ⊥) → bucket_of p o ≡ count_leading_zeros 256 (distance p o)
  unfolding distance
  bucket-other h =
      bucket-places p o lp lo ∙ ap₂ common (sym (append-nil (bits p))) (sym (append-nil (bits o))) ∙ common-bytes p o [] [] (lp ∙ sym lo) hp ho h
      ∙ ap (λ (n : ℕ). count_leading_zeros (n * 8) (bit_xor (number p) (number o))) lp

  -- "the count of leading zero bits of the XOR with our place"
  pub bucket-zeros : bucket_of p o ≡ count_leading_zeros 256 (distance p o)
  bucket-zeros = ⊎_elim (λ e. same_place (same-eq p o e)) (λ e. bucket-other (differ p o e)) (either (same p o))
    where
      same_place : p ≡ o → bucket_of p o ≡ count_leading_zeros 256 (distance p o)
      same_place e =
          ap (bucket_of p) (sym e) ∙ bucket-self p lp ∙ sym (leading_of_zero 256)
          ∙ ap (count_leading_zeros 256) (sym (distance_self p) ∙ ap (distance p) e)

  -- 256 is our own place's alone
  pub bucket-lt : (p ≡ o → ⊥) → bucket_of p o < 256
  unfolding distance
  bucket-lt h =
      let l : bit_xor (number p) (number o) < 2 ^ 256 = xor_lt 256 (number p) (number o) (subst (λ (n : ℕ). number p < 2 ^ (n * 8)) lp (number_lt p hp)) (subst (λ (n : ℕ). number o < 2 ^ (n * 8)) lo (number_lt o ho)) in
      let n : number p ≡ number o → ⊥ = λ e. h (number-inj p o (lp ∙ sym lo) hp ho e) in
      let t = leading_top 256 (bit_xor (number p) (number o)) (xor-pos (number p) (number o) n) l in
      omega (arith, bucket-other h, t.1)

  pub bucket-ours : bucket_of p o ≡ 256 → p ≡ o
  bucket-ours e = ⊎_elim (λ q. same-eq p o q) (λ q. absurd (bad (bucket-lt (differ p o q)))) (either (same p o))
    where
      bad : bucket_of p o < 256 → ⊥
      bad l = omega arith

-- ---- the loop of `shared_bits`: from i on
abbrev pub eight : List ℕ → ℕ → List ℕ
eight s i = part s i (i + 8)

module _ (p o : List ℕ) (i : ℕ) (lp : i + 8 ≤ length p) (lo : i + 8 ≤ length o) (hp : Bytes p) (ho : Bytes o) where
  cut : common (bits (drop i p)) (bits (drop i o)) ≡ common (bits (eight p i) ++ bits (drop (i + 8) p)) (bits (eight o i) ++ bits (drop (i + 8) o))
  cut = ap₂ (λ (x y : List ℕ). common (bits x) (bits y)) (drop-word p i) (drop-word o i) ∙ ap₂ common (bits-append (eight p i) (drop (i + 8) p)) (bits-append (eight o i) (drop (i + 8) o))

  pub word_same : bit_xor (number (eight p i)) (number (eight o i)) ≡ 0 → common (bits (drop i p)) (bits (drop i o)) ≡ 64 + common (bits (drop (i + 8) p)) (bits (drop (i + 8) o))
  word_same e =
      let q : (eight p i) ≡ (eight o i) = word-inj p o i lp lo hp ho (xor-zero (number (eight p i)) (number (eight o i)) e) in
      cut ∙ ap (λ (x : List ℕ). common (bits (eight p i) ++ bits (drop (i + 8) p)) (bits x ++ bits (drop (i + 8) o))) (sym q)
      ∙ common-append (bits (eight p i)) (bits (drop (i + 8) p)) (bits (drop (i + 8) o)) ∙ omega (arith, length-bits (eight p i), part-size p i 8 lp)

  pub word-other : (bit_xor (number (eight p i)) (number (eight o i)) ≡ 0 → ⊥) → common (bits (drop i p)) (bits (drop i o)) ≡ count_leading_zeros 64 (bit_xor (number (eight p i)) (number (eight o i)))
  word-other h =
      let n : (eight p i) ≡ (eight o i) → ⊥ = λ e. h (subst (λ (x : List ℕ). bit_xor (number (eight p i)) (number x) ≡ 0) e (xor_self (number (eight p i)))) in
      cut ∙ common-bytes (eight p i) (eight o i) (bits (drop (i + 8) p)) (bits (drop (i + 8) o)) (part-size p i 8 lp ∙ sym (part-size o i 8 lo)) (bytes-part p i (i + 8) hp) (bytes-part o i (i + 8) ho) n
      ∙ ap (λ (m : ℕ). count_leading_zeros (m * 8) (bit_xor (number (eight p i)) (number (eight o i)))) (part-size p i 8 lp)

  -- the same of the words that the code read
  pub read_same : {x y : ℕ} → x ≡ number (eight p i) → y ≡ number (eight o i) → bit_xor x y ≡ 0
      → common (bits (drop i p)) (bits (drop i o)) ≡ 64 + common (bits (drop (i + 8) p)) (bits (drop (i + 8) o))
  read_same ex ey e = word_same (ap₂ bit_xor (sym ex) (sym ey) ∙ e)

  pub read-other : {x y : ℕ} → x ≡ number (eight p i) → y ≡ number (eight o i) → (bit_xor x y ≡ 0 → ⊥) → common (bits (drop i p)) (bits (drop i o)) ≡ count_leading_zeros 64 (bit_xor x y)
  read-other {x} {y} ex ey h = word-other (λ e. h (ap₂ bit_xor ex ey ∙ e)) ∙ ap (count_leading_zeros 64) (ap₂ bit_xor (sym ex) (sym ey))

pub words-end : (p o : List ℕ) (i : ℕ) → length p ≤ i → length o ≤ i → common (bits (drop i p)) (bits (drop i o)) ≡ 0
unfolding bits
words-end p o i hp ho = rw (drop_of_length-le p hp, drop_of_length-le o ho) common-none
