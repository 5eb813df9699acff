-- What is found: the slot of a key, a free one, and what form says of each. Assumes nothing.
use mathlib.Core.Path.{◌≡◌, refl, sym, subst}
use mathlib.Core.Logic.{⊎_elim}
use mathlib.Core.Bool.{true, false, not}
use mathlib.Core.List.{List}
use Prim.Native.Nat.{ℕ, ◌<◌, ◌≤◌}
use native.Mathlib.Nat.{eq-or-lt_of_le}
use lib.Dec.{ltb}
use borrow.Author.Tests.{not-true, ltb-true, ltb-false}
use Rattle.octets.specs.Search.{first}
use Rattle.octets.proofs.Bools.{and_l, and_r, and_i, or-e, not-both, either, eq-or-ne}
use Rattle.octets.proofs.Searching.{all-at, first-is}
use Rattle.octets.proofs.Strings.{same-eq, same-yes}
use Rattle.keyed_slots.specs.Slots.{slots_of, slot, used, key_of, holds, apart, alone, keys_apart, slot_with, is_free, free_slot}

pub with-holds : (z : ℕ) (t k : List ℕ) → slot_with z t k < slots_of z t → holds z t k (slot_with z t k) ≡ true
unfolding slot_with
with-holds z t k h = (first-is (holds z t k) (slots_of z t)).here h

pub with-before : (z : ℕ) (t k : List ℕ) (j : ℕ) → j < slot_with z t k → holds z t k j ≡ false
unfolding slot_with
with-before z t k j h = (first-is (holds z t k) (slots_of z t)).before j h

pub free-unused : (z : ℕ) (t : List ℕ) → free_slot z t < slots_of z t → used (slot z t (free_slot z t)) ≡ false
unfolding free_slot is_free
free-unused z t h = not-true (used (slot z t (first (slots_of z t) (is_free z t)))) ((first-is (is_free z t) (slots_of z t)).here h)

pub holds-out : (z : ℕ) (t k : List ℕ) (j : ℕ) → holds z t k j ≡ true → (used (slot z t j) ≡ true) × (key_of (slot z t j) ≡ k)
unfolding holds
holds-out z t k j h = (and_l (used (slot z t j)) _ h, same-eq (key_of (slot z t j)) k (and_r (used (slot z t j)) _ h))

pub holds-in : (z : ℕ) (t k : List ℕ) (j : ℕ) → used (slot z t j) ≡ true → key_of (slot z t j) ≡ k → holds z t k j ≡ true
unfolding holds
holds-in z t k j u e = and_i (used (slot z t j)) _ u (same-yes (key_of (slot z t j)) k e)

-- keys apart: no slot before a used one holds its key
pub apart-before : (z : ℕ) (t : List ℕ) (i j : ℕ) → keys_apart z t ≡ true → i < slots_of z t → used (slot z t i) ≡ true → j < i → holds z t (key_of (slot z t i)) j ≡ false
unfolding keys_apart alone apart
apart-before z t i j y l u lj = not-true (holds z t (key_of (slot z t i)) j) (all-at (apart z t i) i j (⊎_elim (λ e. absurd (not-both (not (used (slot z t i))) e (rw u refl))) (λ e. e) (or-e (not (used (slot z t i))) _ (all-at (alone z t) (slots_of z t) i y l))) lj)

-- a key stands in one slot
pub one-slot : (z : ℕ) (t k : List ℕ) (i j : ℕ) → keys_apart z t ≡ true → i < slots_of z t → j < slots_of z t → holds z t k i ≡ true → holds z t k j ≡ true → i ≡ j
one-slot z t k i j y li lj hi hj = ⊎_elim (λ e. e) (λ ne. absurd (⊎_elim (λ q. bad i j lj hi hj (ltb-true i j q)) (λ q. bad j i li hj hi (past (ltb-false i j q) ne)) (either (ltb i j)))) (eq-or-ne i j)
  where
    past : j ≤ i → (i ≡ j → ⊥) → j < i
    past g ne = ⊎_elim (λ q. absurd (ne (sym q))) (λ q. q) (eq-or-lt_of_le {n = j} {m = i} g)

    bad : (a b : ℕ) → b < slots_of z t → holds z t k a ≡ true → holds z t k b ≡ true → a < b → ⊥
    bad a b l ha hb lt = let o = holds-out z t k b hb in not-both (holds z t k a) ha (subst (λ (x : List ℕ). holds z t x a ≡ false) o.1 (apart-before z t b a y l o.0 lt))
