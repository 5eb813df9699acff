-- The record store as one of slots with keys: what `keyed_slots` counts, finds and tests is what the definitions here say. Assumes nothing.
use mathlib.Core.Path.{◌≡◌, refl, sym, ap, ◌∙◌}
use mathlib.Core.Bool.{Bool, true, false, not, ◌&&◌, ◌||◌}
use mathlib.Core.List.{List}
use Prim.Native.Nat.{ℕ, ◌<◌, ◌≤◌}
use lib.ListN.{get_or}
use Rattle.octets.specs.Search.{all}
use Rattle.octets.proofs.Bools.{and_l, and_r, and_i, or_r, same_way}
use Rattle.octets.proofs.Searching.{all-at, all-intro}
use Rattle.keyed_slots.specs.Slots as keyed
use Rattle.keyed_slots.proofs.Laying.{unused, is-used}
use Rattle.record_slots.specs.Limits.{slot_size}
use Rattle.record_slots.specs.Slots.{slots_of, slot, used, is_record, holds, apart, fits, in_form, slot_with, is_free, free_slot}
use Rattle.record_slots.specs.Inner.{sound}

module _ (t : List ℕ) where
  pub slots_same : keyed.slots_of slot_size t ≡ slots_of t
  unfolding keyed.slots_of slots_of
  slots_same = refl

  pub with-same : (k : List ℕ) → keyed.slot_with slot_size t k ≡ slot_with t k
  unfolding keyed.slot_with keyed.slots_of keyed.holds keyed.slot slot_with slots_of holds slot
  with-same k = refl

  pub free-same : keyed.free_slot slot_size t ≡ free_slot t
  unfolding keyed.free_slot keyed.slots_of keyed.is_free keyed.slot free_slot slots_of is_free slot
  free-same = refl

  -- a slot by itself, and its key
  split : (u r a : Bool) → (not u || (r && a)) ≡ ((not u || r) && (not u || a))
  split true r a = refl
  split false r a = refl

  fits-split : (i : ℕ) → fits t i ≡ (sound t i && keyed.alone slot_size t i)
  unfolding fits sound keyed.alone keyed.apart apart keyed.holds keyed.slot holds slot
  fits-split i = split (used (slot t i)) (is_record (slot t i)) (all i (apart t i))

  pub form-same : (all (slots_of t) (sound t) && keyed.keys_apart slot_size t) ≡ in_form t
  unfolding in_form keyed.keys_apart
  form-same = same_way (all (slots_of t) (sound t) && all (keyed.slots_of slot_size t) (keyed.alone slot_size t)) (all (slots_of t) (fits t)) join part
    where
      join : (all (slots_of t) (sound t) && all (keyed.slots_of slot_size t) (keyed.alone slot_size t)) ≡ true → all (slots_of t) (fits t) ≡ true
      join h =
          all-intro (fits t) (slots_of t)
          (λ i l. fits-split i ∙ and_i (sound t i) _ (all-at (sound t) (slots_of t) i (and_l (all (slots_of t) (sound t)) _ h) l) (all-at (keyed.alone slot_size t) (slots_of t) i (ap (λ (n : ℕ). all n (keyed.alone slot_size t)) (sym slots_same) ∙ and_r (all (slots_of t) (sound t)) _ h) l))

      part : all (slots_of t) (fits t) ≡ true → (all (slots_of t) (sound t) && all (keyed.slots_of slot_size t) (keyed.alone slot_size t)) ≡ true
      part h =
          and_i (all (slots_of t) (sound t)) _ (all-intro (sound t) (slots_of t) (λ i l. and_l (sound t i) _ (sym (fits-split i) ∙ all-at (fits t) (slots_of t) i h l)))
          (ap (λ (n : ℕ). all n (keyed.alone slot_size t)) slots_same ∙ all-intro (keyed.alone slot_size t) (slots_of t) (λ i l. and_r (sound t i) _ (sym (fits-split i) ∙ all-at (fits t) (slots_of t) i h l)))

-- ---- a slot of a store, tested
module _ (t : List ℕ) (i : ℕ) {s : List ℕ} (e : s ≡ slot t i) where
  pub sound-free : get_or s 0 0 < 1 → true ≡ sound t i
  unfolding sound
  sound-free h = rw (← e, unused s h)

  pub sound-used : 1 ≤ get_or s 0 0 → {b : Bool} → b ≡ is_record s → b ≡ sound t i
  unfolding sound
  sound-used h g = g ∙ rw (← e, is-used s h)

pub sound-record : (t : List ℕ) (i : ℕ) → is_record (slot t i) ≡ true → sound t i ≡ true
unfolding sound
sound-record t i h = or_r (not (used (slot t i))) _ h

pub sound-same : (s t : List ℕ) (i : ℕ) → slot s i ≡ slot t i → sound s i ≡ sound t i
unfolding sound
sound-same s t i e = ap (λ (x : List ℕ). not (used x) || is_record x) e
