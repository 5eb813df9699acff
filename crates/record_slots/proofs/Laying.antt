-- Laws of the layout of a slot, and of the tests on one. Assumes nothing.
use mathlib.Core.Path.{◌≡◌, refl, sym, ap, ◌∙◌}
use mathlib.Core.Bool.{Bool, true, false}
use mathlib.Core.List.{List, [], ◌∷◌}
use Prim.Native.Nat.{ℕ, ◌+◌, ◌*◌, ◌-◌, ◌<◌, ◌≤◌, min}
use native.Mathlib.Omega.{arith}
use lib.Dec.{ltb, leb}
use lib.ListN.{length, get_or, drop, length-take, length-drop}
use lib.Seq.{take_all}
use borrow.Author.Tests.{le-leb, lt-leb, ltb-true, ltb-false, leb-true}
use Rattle.octets.specs.Octets.{part, starts_with}
use Rattle.octets.specs.Search.{all_of}
use Rattle.octets.proofs.Bools.{all-on, all-off, all_none, all_head, all_rest, all-one-more}
use Rattle.octets.proofs.Parts.{part-size}
use Rattle.limits.specs.Limits.{most_key, most_value}
use Rattle.recipe.specs.Limits.{trailer_size}
use Rattle.record_slots.specs.Limits.{key_min, opening, key_at, value_at, slot_size}
use Rattle.record_slots.specs.Slots.{slots_of, slot, key_of, size_of, value_of, is_key, is_record}

-- one test that is left of a list of them
only : (b : Bool) → all_of (b ∷ []) ≡ b
only true = all-on true [] refl ∙ all_none
only false = all-off false [] refl

-- ---- slots
pub slot-in : (t : List ℕ) (i : ℕ) → i < slots_of t → i * slot_size + slot_size ≤ length t
unfolding slots_of
slot-in t i h = omega arith

pub slot-long : (t : List ℕ) (i : ℕ) → i < slots_of t → length (slot t i) ≡ slot_size
unfolding slot
slot-long t i h = part-size t (i * slot_size) slot_size (slot-in t i h)

pub slot-cut : (t : List ℕ) (i : ℕ) → part t (i * slot_size) (i * slot_size + slot_size) ≡ slot t i
unfolding slot
slot-cut t i = refl

pub key-cut : (s : List ℕ) → part s key_at (key_at + get_or s 0 0) ≡ key_of s
unfolding key_of
key-cut s = refl

pub size_is : (s : List ℕ) → get_or s 2 0 + get_or s 3 0 * 256 ≡ size_of s
unfolding size_of
size_is s = refl

pub value-size : (s : List ℕ) → length s ≡ slot_size → length (value_of s) ≡ min (size_of s) most_value
unfolding value_of
value-size s h = simp (length-take, length-drop) (omega arith)

pub value-cut : (s : List ℕ) {n : ℕ} → length s ≡ slot_size → n ≡ min (size_of s) most_value → part s value_at (value_at + n) ≡ value_of s
unfolding value_of
value-cut s {n} h e = go (ltb (size_of s) most_value) refl
  where
    go : (b : Bool) → ltb (size_of s) most_value ≡ b → part s value_at (value_at + n) ≡ part s value_at (value_at + size_of s)
    go true q = let z : n ≡ size_of s = omega (arith, ltb-true (size_of s) most_value q) in rw z
    go false q =
        let l : most_value ≤ size_of s = ltb-false (size_of s) most_value q in
        take_all (value_at + n - value_at) (drop value_at s) (simp length-drop (omega arith)) ∙ sym (take_all (value_at + size_of s - value_at) (drop value_at s) (simp length-drop (omega arith)))

-- ---- keys
module _ (k : List ℕ) where
  pub key-short : length k < key_min → false ≡ is_key k
  unfolding is_key
  key-short h = sym (all-off (leb key_min (length k)) (leb (length k) most_key ∷ starts_with k opening ∷ []) (lt-leb key_min (length k) h))

  pub key-long : key_min ≤ length k → most_key < length k → false ≡ is_key k
  unfolding is_key
  key-long h l =
      sym (all-on (leb key_min (length k)) (leb (length k) most_key ∷ starts_with k opening ∷ []) (le-leb key_min (length k) h)
      ∙ all-off (leb (length k) most_key) (starts_with k opening ∷ []) (lt-leb (length k) most_key l))

  pub key-opens : key_min ≤ length k → length k ≤ most_key → {r : Bool} → r ≡ starts_with k opening → r ≡ is_key k
  unfolding is_key
  key-opens h l e =
      e ∙ sym (all-on (leb key_min (length k)) (leb (length k) most_key ∷ starts_with k opening ∷ []) (le-leb key_min (length k) h)
      ∙ all-on (leb (length k) most_key) (starts_with k opening ∷ []) (le-leb (length k) most_key l) ∙ only (starts_with k opening))

  pub key-least : is_key k ≡ true → key_min ≤ length k
  unfolding is_key
  key-least h = leb-true key_min (length k) (all_head (leb key_min (length k)) (leb (length k) most_key ∷ starts_with k opening ∷ []) h)

  pub key-most : is_key k ≡ true → length k ≤ most_key
  unfolding is_key
  key-most h =
      leb-true (length k) most_key (all_head (leb (length k) most_key) (starts_with k opening ∷ []) (all_rest (leb key_min (length k)) (leb (length k) most_key ∷ starts_with k opening ∷ []) h))

-- ---- a used slot
module _ (s : List ℕ) where
  abbrev size-tests : List Bool
  size-tests = leb trailer_size (size_of s) ∷ leb (size_of s) most_value ∷ []

  pub record-key : {k : List ℕ} {b : Bool} → k ≡ key_of s → b ≡ is_key k → b ≡ false → false ≡ is_record s
  unfolding is_record
  record-key e f z = sym (all-off (is_key (key_of s)) size-tests (ap is_key (sym e) ∙ sym f ∙ z))

  module _ {k : List ℕ} {b : Bool} {n : ℕ} (e : k ≡ key_of s) (f : b ≡ is_key k) (z : b ≡ true) (m : n ≡ size_of s) where
    pass : is_record s ≡ all_of size-tests
    unfolding is_record
    pass = all-on (is_key (key_of s)) size-tests (ap is_key (sym e) ∙ sym f ∙ z)

    pub record-few : n < trailer_size → false ≡ is_record s
    record-few l = sym (pass ∙ all-off (leb trailer_size (size_of s)) (leb (size_of s) most_value ∷ []) (lt-leb trailer_size (size_of s) (omega arith)))

    pub record-last : trailer_size ≤ n → leb n most_value ≡ is_record s
    record-last l =
        ap (λ (x : ℕ). leb x most_value) m
        ∙ sym (pass ∙ all-on (leb trailer_size (size_of s)) (leb (size_of s) most_value ∷ []) (le-leb trailer_size (size_of s) (omega arith)) ∙ only (leb (size_of s) most_value))

  pub record_is : is_key (key_of s) ≡ true → trailer_size ≤ size_of s → size_of s ≤ most_value → is_record s ≡ true
  unfolding is_record
  record_is a b c =
      all-one-more (is_key (key_of s)) size-tests a
      (all-one-more (leb trailer_size (size_of s)) (leb (size_of s) most_value ∷ []) (le-leb trailer_size (size_of s) b)
      (all-one-more (leb (size_of s) most_value) [] (le-leb (size_of s) most_value c) all_none))
