-- What a store gives, and what after a put that writes: it stays in form, the key gives the new value, and every other key what it gave. Assumes nothing.
use mathlib.Core.Path.{◌≡◌, refl, sym, ap, ap₂, ◌∙◌, subst}
use mathlib.Core.Logic.{⊎_elim}
use mathlib.Core.Bool.{Bool, true, false, not, ◌&&◌, ◌||◌}
use mathlib.Core.List.{List}
use Prim.Native.Nat.{ℕ, ◌+◌, ◌*◌, ◌<◌, ◌≤◌, min}
use native.Mathlib.Omega.{arith}
use lib.Dec.{ltb}
use lib.ListN.{length}
use lib.Seq.{sets}
use borrow.Author.Tests.{ltb-true, ltb-false, lt-ltb, le-ltb, not-true}
use Rattle.octets.specs.Octets.{part}
use Rattle.octets.specs.Search.{all}
use Rattle.octets.proofs.Bools.{and_l, and_r, and_i, or_r, either, eq-or-ne, cond_yes, cond_no}
use Rattle.octets.proofs.Searching.{all-at, all-intro}
use Rattle.octets.proofs.Parts.{part-part}
use Rattle.limits.specs.Limits.{most_key, most_value}
use Rattle.recipe.proofs.Trailer.{recipe-least, recipe-most}
use Rattle.keyed_slots.specs.Slots as keyed
use Rattle.keyed_slots.proofs.Writing as writing
use Rattle.records.specs.Limits.{value_at, slot_size}
use Rattle.records.specs.Store.{between, slots_of, slot, used, key_of, size_of, value_of, slot_bytes, is_key, is_record, holds, apart, fits, in_form, slot_with, is_free, free_slot, held_at, found, plan_of}
use Rattle.records_history.specs.History.{got}
use Rattle.record_slots.specs.Inner.{sound}
use Rattle.record_slots.proofs.Laying.{slot-in, slot-long, value-size, value-cut, key-most, key-least, record_is}
use Rattle.record_slots.proofs.Keyed.{with-same, form-same, sound-record, sound-same}
use Rattle.records.proofs.Putting.{write-key, write-recipe, write-where, write-in}
use Rattle.records_history.proofs.Written.{bytes-size, bytes-used, bytes-key, bytes_count, bytes-value, written-slots, written_same, written-other}
use Rattle.std.specs.Prelude.{Ok, Some, None}
use Rattle.records.specs.declared.Held.{Held}
use Rattle.refusal.specs.declared.Refusal.{Refusal}
use Rattle.std.specs.Prelude.{Result, Option}

-- ---- what a key gives
value-part : (t : List ℕ) (i : ℕ) → i < slots_of t → value_of (slot t i) ≡ part t (i * slot_size + value_at) (i * slot_size + value_at + length (value_of (slot t i)))
unfolding slot
value-part t i l =
    let n : ℕ = length (value_of (slot t i)) in
    let h : length (slot t i) ≡ slot_size = slot-long t i l in
    let m : length (value_of (slot t i)) ≡ min (size_of (slot t i)) most_value = value-size (slot t i) h in
    let e : i * slot_size + (value_at + length (value_of (slot t i))) ≡ i * slot_size + value_at + length (value_of (slot t i)) = omega arith in
    sym (value-cut (slot t i) h m) ∙ part-part t (i * slot_size) (i * slot_size + slot_size) value_at (value_at + length (value_of (slot t i))) (omega arith)
    ∙ ap (λ (x : ℕ). part t (i * slot_size + value_at) x) e

pub got-held : (t k : List ℕ) (i : ℕ) → slot_with t k ≡ i → i < slots_of t → got t k ≡ Some (value_of (slot t i))
unfolding got
got-held t k i e h = rw (e, lt-ltb i (slots_of t) h)

pub got-none : (t k : List ℕ) → slots_of t ≤ slot_with t k → got t k ≡ None
unfolding got
got-none t k h = rw (le-ltb (slot_with t k) (slots_of t) h)

-- where `look` says that a value stands, the value of the key stands; and it says nothing else
pub found-is : (t k : List ℕ) {a e : ℕ} → found t k ≡ Ok (Some (between a e)) → (a ≤ e) × (e ≤ length t) × (got t k ≡ Some (part t a e))
unfolding found held_at
found-is t k {a} {e} q = ⊎_elim (λ b. held (ltb-true (slot_with t k) (slots_of t) b) (sym (cond_yes (ltb (slot_with t k) (slots_of t)) (held_at t (slot_with t k)) (Ok None) b) ∙ q)) (λ b. lost (sym (cond_no (ltb (slot_with t k) (slots_of t)) (held_at t (slot_with t k)) (Ok None) b) ∙ q)) (either (ltb (slot_with t k) (slots_of t)))
  where
    lost : ◌≡◌ {A = Result (Option Held) Refusal} (Ok None) (Ok (Some (between a e))) → (a ≤ e) × (e ≤ length t) × (got t k ≡ Some (part t a e))
    lost w = let z : ◌≡◌ {A = ℕ} 0 1 = cc in absurd (omega arith)

    held : slot_with t k < slots_of t → ◌≡◌ {A = Result (Option Held) Refusal} (Ok (Some (between (slot_with t k * slot_size + value_at) (slot_with t k * slot_size + value_at + length (value_of (slot t (slot_with t k))))))) (Ok (Some (between a e))) → (a ≤ e) × (e ≤ length t) × (got t k ≡ Some (part t a e))
    held l w =
        let p : between (slot_with t k * slot_size + value_at) (slot_with t k * slot_size + value_at + length (value_of (slot t (slot_with t k)))) ≡ between a e = cc in
        let ea : slot_with t k * slot_size + value_at ≡ a = ap (λ (x : Held). x.start) p in
        let ee : slot_with t k * slot_size + value_at + length (value_of (slot t (slot_with t k))) ≡ e = ap (λ (x : Held). x.end) p in
        let n = value-size (slot t (slot_with t k)) (slot-long t (slot_with t k) l) in
        let g = slot-in t (slot_with t k) l in
        (omega arith, omega arith, got-held t k (slot_with t k) refl l ∙ ap Some (value-part t (slot_with t k) l ∙ ap₂ (λ (x y : ℕ). part t x y) ea ee))

-- and a value that a key gives stands where `look` says
pub got-found : (t k v : List ℕ) → got t k ≡ Some v → (a : ℕ) × (e : ℕ) × (found t k ≡ Ok (Some (between a e))) × (part t a e ≡ v)
unfolding found held_at
got-found t k v g = ⊎_elim (λ b. there (cond_yes (ltb (slot_with t k) (slots_of t)) (held_at t (slot_with t k)) (Ok None) b)) (λ b. absurd (gone (sym (got-none t k (ltb-false (slot_with t k) (slots_of t) b)) ∙ g))) (either (ltb (slot_with t k) (slots_of t)))
  where
    gone : None ≡ Some v → ⊥
    gone w = let z : ◌≡◌ {A = ℕ} 0 1 = cc in omega arith

    the : {x y : List ℕ} → Some x ≡ Some y → x ≡ y
    the w = cc

    there : {a e : ℕ} → found t k ≡ Ok (Some (between a e)) → (a : ℕ) × (e : ℕ) × (found t k ≡ Ok (Some (between a e))) × (part t a e ≡ v)
    there {a} {e} q = (a, e, q, the (sym (found-is t k q).2 ∙ g))

-- ---- keys apart
pub apart_out : (t : List ℕ) (i j : ℕ) → apart t i j ≡ true → holds t (key_of (slot t i)) j ≡ false
unfolding apart
apart_out t i j h = not-true (holds t (key_of (slot t i)) j) h

pub apart_in : (t : List ℕ) (i j : ℕ) → holds t (key_of (slot t i)) j ≡ false → apart t i j ≡ true
unfolding apart
apart_in t i j h = rw h

pub fits_in : (t : List ℕ) (j : ℕ) → (used (slot t j) ≡ true → (is_record (slot t j) ≡ true) × (all j (apart t j) ≡ true)) → fits t j ≡ true
unfolding fits
fits_in t j h = go (used (slot t j)) refl
  where
    go : (b : Bool) → used (slot t j) ≡ b → (not (used (slot t j)) || (is_record (slot t j) && all j (apart t j))) ≡ true
    go true q = let r = h q in or_r (not (used (slot t j))) _ (and_i (is_record (slot t j)) _ r.0 r.1)
    go false q = rw q

-- ---- a put that writes slot i, into a store of any bytes
module _ (t k v : List ℕ) (i : ℕ) (e : plan_of t k v ≡ Ok (Some i)) where
  lk : length k ≤ most_key
  lk = key-most k (write-key t k v i e)

  lk1 : 1 ≤ length k
  lk1 = omega (arith, key-least k (write-key t k v i e))

  lv : length v ≤ most_value
  lv = recipe-most v (write-recipe t k v i e)

  li : i < slots_of t
  li = write-in t k v i e

  es : length (slot_bytes k v) ≡ slot_size
  es = bytes-size k v lk lv

  abbrev W : List ℕ
  W = sets t (i * slot_size) (slot_bytes k v)

  wn : slots_of W ≡ slots_of t
  wn = written-slots t (slot_bytes k v) i li es

  ws : slot W i ≡ slot_bytes k v
  ws = written_same t (slot_bytes k v) i li es

  wo : (j : ℕ) → (j ≡ i → ⊥) → slot W j ≡ slot t j
  wo j ne = written-other t (slot_bytes k v) i li es j ne

  -- the slot of the key, or the lowest free one
  home : writing.Home slot_size t k i
  unfolding keyed.slots_of keyed.slot keyed.holds keyed.slot_with keyed.is_free keyed.free_slot slots_of slot holds slot_with is_free free_slot
  home =
      ⊎_elim (λ w. subst (writing.Home slot_size t k) w.1 (writing.home-held slot_size t k w.0))
      (λ w. subst (writing.Home slot_size t k) w.2 (writing.home-free slot_size t k w.0 w.1)) (write-where t k v i e)

  us : used (slot_bytes k v) ≡ true
  us = bytes-used k v lk lv lk1

  ks : key_of (slot_bytes k v) ≡ k
  ks = bytes-key k v lk lv

  find-new : slot_with W k ≡ i
  find-new = sym (with-same W k) ∙ writing.find-new slot_size t k (slot_bytes k v) i home es us ks

  pub write-got : got W k ≡ Some v
  write-got = got-held W k i find-new (rw wn li) ∙ ap Some (ap value_of ws ∙ bytes-value k v lk lv)

  module _ (k' : List ℕ) (ne : k ≡ k' → ⊥) where
    find-other : slot_with W k' ≡ slot_with t k'
    find-other = sym (with-same W k') ∙ writing.find-other slot_size t k (slot_bytes k v) i home es us ks k' ne ∙ with-same t k'

    other-slot : slot_with t k' < slots_of t → slot W (slot_with t k') ≡ slot t (slot_with t k')
    unfolding keyed.slots_of keyed.slot keyed.holds keyed.slot_with slots_of slot holds slot_with
    other-slot = writing.other-slot slot_size t k (slot_bytes k v) i home es us ks k' ne

    pub write-other : got W k' ≡ got t k'
    write-other = ⊎_elim (λ q. held (ltb-true (slot_with t k') (slots_of t) q)) (λ q. lost (ltb-false (slot_with t k') (slots_of t) q)) (either (ltb (slot_with t k') (slots_of t)))
      where
        held : slot_with t k' < slots_of t → got W k' ≡ got t k'
        held l = got-held W k' (slot_with t k') find-other (rw wn l) ∙ ap (λ (x : List ℕ). Some (value_of x)) (other-slot l) ∙ sym (got-held t k' (slot_with t k') refl l)

        lost : slots_of t ≤ slot_with t k' → got W k' ≡ got t k'
        lost l = got-none W k' (rw (wn, find-other) l) ∙ sym (got-none t k' l)

  record-new : is_record (slot_bytes k v) ≡ true
  record-new =
      record_is (slot_bytes k v) (ap is_key ks ∙ write-key t k v i e)
      (omega (arith, bytes_count k v lk lv, recipe-least v (write-recipe t k v i e))) (omega (arith, bytes_count k v lk lv, lv))

  -- in form: the new slot holds a record, the others are as they were, and no key stands twice
  pub write-form : in_form t ≡ true → in_form W ≡ true
  write-form form = sym (form-same W) ∙ and_i (all (slots_of W) (sound W)) _ (rw wn (all-intro (sound W) (slots_of t) (λ j l. ⊎_elim (λ q. here j q) (λ q. there j l q) (eq-or-ne j i)))) (writing.write-apart slot_size t k (slot_bytes k v) i home es us ks (and_r (all (slots_of t) (sound t)) _ parts))
    where
      parts : (all (slots_of t) (sound t) && keyed.keys_apart slot_size t) ≡ true
      parts = form-same t ∙ form

      here : (j : ℕ) → j ≡ i → sound W j ≡ true
      here j q = subst (λ (n : ℕ). sound W n ≡ true) (sym q) (sound-record W i (ap is_record ws ∙ record-new))

      there : (j : ℕ) → j < slots_of t → (j ≡ i → ⊥) → sound W j ≡ true
      there j l ne = sound-same W t j (wo j ne) ∙ all-at (sound t) (slots_of t) j (and_l (all (slots_of t) (sound t)) _ parts) l
