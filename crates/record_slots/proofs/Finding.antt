-- What is found: the slot of a key, and what form says of a slot. Assumes nothing.
use mathlib.Core.Path.{◌≡◌, refl}
use mathlib.Core.Logic.{◌⊎◌, ⊎_elim}
use mathlib.Core.Bool.{true, not, ◌&&◌}
use mathlib.Core.List.{List}
use Prim.Native.Nat.{ℕ, ◌<◌}
use Rattle.octets.specs.Search.{all}
use Rattle.octets.proofs.Bools.{and_l, and_r, and_i, or-e, not-both}
use Rattle.octets.proofs.Searching.{all-at, first-is}
use Rattle.octets.proofs.Strings.{same-eq, same-yes}
use Rattle.record_slots.specs.Slots.{slots_of, slot, used, key_of, is_record, holds, apart, fits, in_form, slot_with}

pub with-holds : (t k : List ℕ) → slot_with t k < slots_of t → holds t k (slot_with t k) ≡ true
unfolding slot_with
with-holds t k h = (first-is (holds t k) (slots_of t)).here h

pub holds-out : (t k : List ℕ) (j : ℕ) → holds t k j ≡ true → (used (slot t j) ≡ true) × (key_of (slot t j) ≡ k)
unfolding holds
holds-out t k j h = (and_l (used (slot t j)) _ h, same-eq (key_of (slot t j)) k (and_r (used (slot t j)) _ h))

pub holds-in : (t k : List ℕ) (j : ℕ) → used (slot t j) ≡ true → key_of (slot t j) ≡ k → holds t k j ≡ true
unfolding holds
holds-in t k j u e = and_i (used (slot t j)) _ u (same-yes (key_of (slot t j)) k e)

-- a slot of a store in form
module _ (t : List ℕ) (i : ℕ) (form : in_form t ≡ true) (l : i < slots_of t) (u : used (slot t i) ≡ true) where
  both : (is_record (slot t i) && all i (apart t i)) ≡ true
  unfolding in_form fits
  both = ⊎_elim (λ e. absurd (not-both (not (used (slot t i))) e (rw u refl))) (λ e. e) (or-e (not (used (slot t i))) _ (all-at (fits t) (slots_of t) i form l))

  pub form-record : is_record (slot t i) ≡ true
  form-record = and_l (is_record (slot t i)) _ both

  pub form-apart : all i (apart t i) ≡ true
  form-apart = and_r (is_record (slot t i)) _ both
