-- Form goes by what stands before the value in each slot: `form-is-blind`. Assumes nothing.
use mathlib.Core.Path.{◌≡◌, sym, ap, ap₂, ◌∙◌}
use mathlib.Core.Bool.{true, false, not}
use mathlib.Core.List.{List, [], ◌∷◌}
use Prim.Native.Nat.{ℕ, ◌+◌, ◌-◌, ◌*◌, ◌/◌, ◌<◌, ◌≤◌, min}
use native.Mathlib.Omega.{arith}
use lib.Dec.{leb, eqb}
use lib.ListN.{length, get_or, take, length-take, length-drop}
use lib.Seq.{get_or-take}
use Rattle.octets.specs.Octets.{part}
use Rattle.octets.specs.Search.{all, all_of}
use Rattle.octets.proofs.Bools.{all_head, not-both, same_way, to-false}
use Rattle.octets.proofs.Searching.{all-at, all-intro}
use Rattle.octets.proofs.Parts.{part-part}
use Rattle.limits.specs.Limits.{most_key, most_value, most_records}
use Rattle.recipe.specs.Limits.{trailer_size}
use Rattle.records.specs.Limits.{key_at, value_at, slot_size}
use Rattle.records.specs.Store.{slots_of, slot, used, key_of, size_of, is_key, is_record, holds, apart, fits, in_form}
use Rattle.record_slots.proofs.Laying.{slot-long, key-most}
use Rattle.record_slots.proofs.Finding.{holds-out, holds-in, form-record, form-apart}
use Rattle.records_history.specs.Claims.{FormIsBlind}
use Rattle.records_history.proofs.Kept.{apart_out, apart_in, fits_in}

-- ---- two slots that have the same bytes before the value
module _ (a b : List ℕ) (alike : take value_at a ≡ take value_at b) where
  byte : (i : ℕ) → i < value_at → get_or a i 0 ≡ get_or b i 0
  byte i l = sym (get_or-take value_at a i 0 l) ∙ ap (λ (x : List ℕ). get_or x i 0) alike ∙ get_or-take value_at b i 0 l

  used-same : used a ≡ used b
  unfolding used
  used-same = ap (λ (n : ℕ). not (eqb n 0)) (byte 0 (omega arith))

  size_same : size_of a ≡ size_of b
  unfolding size_of
  size_same = ap₂ (λ (m n : ℕ). m + n * 256) (byte 2 (omega arith)) (byte 3 (omega arith))

  module _ (long : length a ≡ slot_size) (is : is_record a ≡ true) where
    key-is : is_key (key_of a) ≡ true
    unfolding is_record
    key-is = all_head (is_key (key_of a)) _ is

    -- a key of over 128 bytes would reach into the value, and is none
    key_in : get_or a 0 0 ≤ most_key
    unfolding key_of
    key_in =
        let n : length (key_of a) ≡ min (get_or a 0 0) (slot_size - key_at) = simp (length-take, length-drop) (omega arith) in
        omega (arith, key-most (key_of a) key-is)

    key-same : key_of a ≡ key_of b
    unfolding key_of
    key-same =
        cut a (get_or a 0 0) key_in ∙ ap₂ (λ (x : List ℕ) (n : ℕ). part x key_at (key_at + n)) alike (byte 0 (omega arith)) ∙ sym (cut b (get_or b 0 0) (omega (arith, key_in, byte 0 (omega arith))))
      where
        cut : (x : List ℕ) (n : ℕ) → n ≤ most_key → part x key_at (key_at + n) ≡ part (take value_at x) key_at (key_at + n)
        cut x n l =
            let z : 0 + (key_at + n) ≡ key_at + n = omega arith in
            sym (part-part x 0 value_at key_at (key_at + n) (omega arith) ∙ ap (λ (e : ℕ). part x key_at e) z)

    record_same : is_record b ≡ true
    unfolding is_record
    record_same =
        sym (ap₂ (λ (k : List ℕ) (n : ℕ). all_of (is_key k ∷ leb trailer_size n ∷ leb n most_value ∷ [])) key-same size_same) ∙ is

-- ---- two stores of such slots
module _ (s t : List ℕ) (n : slots_of s ≡ slots_of t) (alike : (i : ℕ) → i < slots_of s → take value_at (slot s i) ≡ take value_at (slot t i)) (form : in_form s ≡ true) where
  module _ (i : ℕ) (l : i < slots_of s) (u : used (slot t i) ≡ true) where
    was-used : used (slot s i) ≡ true
    was-used = used-same (slot s i) (slot t i) (alike i l) ∙ u

    was : is_record (slot s i) ≡ true
    was = form-record s i form l was-used

    same_key : key_of (slot s i) ≡ key_of (slot t i)
    same_key = key-same (slot s i) (slot t i) (alike i l) (slot-long s i l) was

    same-record : is_record (slot t i) ≡ true
    same-record = record_same (slot s i) (slot t i) (alike i l) (slot-long s i l) was

  none_before : (i : ℕ) (l : i < slots_of s) → used (slot t i) ≡ true → (j : ℕ) → j < i → holds t (key_of (slot t i)) j ≡ false
  none_before i l u j h = to-false (holds t (key_of (slot t i)) j) twice
    where
      twice : holds t (key_of (slot t i)) j ≡ true → ⊥
      twice e =
          let o = holds-out t (key_of (slot t i)) j e in
          let lj : j < slots_of s = omega arith in
          not-both (holds s (key_of (slot s i)) j)
          (holds-in s (key_of (slot s i)) j (was-used j lj o.0) (same_key j lj o.0 ∙ o.1 ∙ sym (same_key i l u)))
          (apart_out s i j (all-at (apart s i) i j (form-apart s i form l (was-used i l u)) h))

  form-over : in_form t ≡ true
  unfolding in_form
  form-over = all-intro (fits t) (slots_of t) (λ i l. let m : i < slots_of s = omega (arith, n) in fits_in t i (λ u. (same-record i m u, all-intro (apart t i) i (λ j h. apart_in t i j (none_before i m u j h)))))

slots_same : (s t : List ℕ) → length s ≡ length t → slots_of s ≡ slots_of t
unfolding slots_of
slots_same s t e = ap (λ (n : ℕ). min (n / slot_size) most_records) e

head : (x : List ℕ) (i : ℕ) → take value_at (part x (i * slot_size) (i * slot_size + slot_size)) ≡ part x (i * slot_size) (i * slot_size + value_at)
head x i =
    let z : i * slot_size + 0 ≡ i * slot_size = omega arith in
    part-part x (i * slot_size) (i * slot_size + slot_size) 0 value_at (omega arith) ∙ ap (λ (n : ℕ). part x n (i * slot_size + value_at)) z

pub form-is-blind : FormIsBlind
unfolding slot
form-is-blind s t e h = same_way (in_form s) (in_form t) (form-over s t n (λ i l. alike s t i (h i l))) (form-over t s (sym n) (λ i l. alike t s i (sym (h i (omega (arith, n))))))
  where
    n : slots_of s ≡ slots_of t
    n = slots_same s t e

    alike : (x y : List ℕ) (i : ℕ) → part x (i * slot_size) (i * slot_size + value_at) ≡ part y (i * slot_size) (i * slot_size + value_at)
        → take value_at (part x (i * slot_size) (i * slot_size + slot_size)) ≡ take value_at (part y (i * slot_size) (i * slot_size + slot_size))
    alike x y i q = head x i ∙ q ∙ sym (head y i)
