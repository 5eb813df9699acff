-- What a store does with the value that it holds under a key, whatever that value is. Assumes nothing.
use mathlib.Core.Path.{◌≡◌, refl, sym, ap, ◌∙◌, subst}
use mathlib.Core.Logic.{⊎_elim}
use mathlib.Core.Bool.{Bool, true, false, cond, not, ◌&&◌}
use mathlib.Core.List.{List, []}
use Prim.Native.Nat.{ℕ, ◌+◌, ◌*◌, ◌<◌, ◌≤◌}
use lib.Dec.{ltb, leb}
use native.Mathlib.Omega.{arith}
use lib.ListN.{length}
use borrow.Author.Tests.{leb-true, ltb-true, ltb-false, lt-ltb, le-ltb}
use Rattle.octets.specs.Octets.{part, same}
use Rattle.octets.proofs.Bools.{all_head, all_rest, cond-ap, cond_no, cond_yes, either, not-both}
use Rattle.octets.proofs.Searching.{all-at, first-hit, first-miss, first-lt}
use Rattle.octets.proofs.Strings.{same-eq, same_refl}
use Rattle.refusal.specs.declared.Refusal.TheVariants.{OutOfForm, BreaksRules, BrokenRecipe, Outranked, NoRecordSlot}
use Rattle.limits.specs.Limits.{most_value}
use Rattle.recipe.specs.Limits.{trailer_size}
use Rattle.recipe.specs.Recipe.{is_recipe, outranks}
use Rattle.recipe.proofs.Rank.{outranks-self}
use Rattle.records.specs.Limits.{value_at, slot_size}
use Rattle.records.specs.Store.{between, slots_of, slot, used, is_free, free_slot, key_of, size_of, value_of, is_key, is_record, holds, apart, in_form, slot_with, held_at, found, find_of, held_plan, plan_of, answer_of, offer_answer, put_answer, put_after}
use Rattle.record_slots.proofs.Laying.{slot-long, value-size}
use Rattle.record_slots.proofs.Finding.{with-holds, holds-out, form-record, form-apart}
use Rattle.records_history.specs.History.{got, taken}
use Rattle.records_history.specs.Claims.{HeldIsFound, JudgedFirst, PutTold}
use Rattle.records_history.proofs.Kept.{got-held, got-none, found-is, apart_out}
use Rattle.records_history.proofs.Stays.{has, none, put_is, put-got}
use Rattle.std.specs.Prelude.{Ok, Err, Some, None}

-- ---- a key that is held
module _ (t k u : List ℕ) (g : got t k ≡ Some u) where
  pub held_in : slot_with t k < slots_of t
  held_in = ⊎_elim (λ b. ltb-true (slot_with t k) (slots_of t) b) (λ b. absurd (none (sym (got-none t k (ltb-false (slot_with t k) (slots_of t) b)) ∙ g))) (either (ltb (slot_with t k) (slots_of t)))

  pub held-value : value_of (slot t (slot_with t k)) ≡ u
  held-value = has (sym (got-held t k (slot_with t k) refl held_in) ∙ g)

  pub held-key : in_form t ≡ true → is_key k ≡ true
  unfolding is_record
  held-key form =
      let h = holds-out t k (slot_with t k) (with-holds t k held_in) in
      subst (λ (x : List ℕ). is_key x ≡ true) h.1 (all_head (is_key (key_of (slot t (slot_with t k)))) _ (form-record t (slot_with t k) form held_in h.0))

  pub held_found : (a : ℕ) × (e : ℕ) × (found t k ≡ Ok (Some (between a e))) × (part t a e ≡ u)
  unfolding found held_at
  held_found =
      let a : ℕ = slot_with t k * slot_size + value_at in
      let e : ℕ = slot_with t k * slot_size + value_at + length (value_of (slot t (slot_with t k))) in
      let q : found t k ≡ (Ok (Some (between (slot_with t k * slot_size + value_at) (slot_with t k * slot_size + value_at + length (value_of (slot t (slot_with t k))))))) = rw (lt-ltb (slot_with t k) (slots_of t) held_in) refl in
      (a, e, q, has (sym (found-is t k q).2 ∙ g))

-- in form, one slot holds a key, so that is where it is looked up
slot-holds : (t k : List ℕ) (i : ℕ) → in_form t ≡ true → i < slots_of t → holds t k i ≡ true → got t k ≡ Some (value_of (slot t i))
unfolding slot_with
slot-holds t k i form l h = got-held t k i (sym (first-hit (holds t k) (slots_of t) i l before h)) l
  where
    before : (j : ℕ) → j < i → holds t k j ≡ false
    before j m =
        let o = holds-out t k i h in
        subst (λ (x : List ℕ). holds t x j ≡ false) o.1 (apart_out t i j (all-at (apart t i) i j (form-apart t i form l o.0) m))

value_found : (t k u : List ℕ) → in_form t ≡ true → got t k ≡ Some u → (a : ℕ) × (e : ℕ) × (find_of t k ≡ Ok (Some (between a e))) × (part t a e ≡ u)
unfolding find_of
value_found t k u form g = let f = held_found t k u g in (f.0, f.1, rw form f.2, f.3)

-- and a key that gives none is in no slot
not_in : (t k : List ℕ) → got t k ≡ None → ltb (slot_with t k) (slots_of t) ≡ false
not_in t k g = ⊎_elim (λ b. absurd (none (sym g ∙ got-held t k (slot_with t k) refl (ltb-true (slot_with t k) (slots_of t) b)))) (λ b. b) (either (ltb (slot_with t k) (slots_of t)))

pub not_found : (t k : List ℕ) → got t k ≡ None → found t k ≡ Ok None
unfolding found
not_found t k g = rw (not_in t k g) refl

none_found : (t k : List ℕ) → in_form t ≡ true → got t k ≡ None → find_of t k ≡ Ok None
unfolding find_of
none_found t k form g = rw form (not_found t k g)

-- in form a slot says how many bytes of a value it has, and has them
all_there : (t : List ℕ) (i : ℕ) → in_form t ≡ true → i < slots_of t → used (slot t i) ≡ true
    → (length (value_of (slot t i)) ≡ size_of (slot t i)) × (trailer_size ≤ size_of (slot t i)) × (size_of (slot t i) ≤ most_value)
unfolding is_record
all_there t i form l u =
    let sizes = all_rest (is_key (key_of (slot t i))) _ (form-record t i form l u) in
    let least = leb-true trailer_size (size_of (slot t i)) (all_head (leb trailer_size (size_of (slot t i))) _ sizes) in
    let most = leb-true (size_of (slot t i)) most_value (all_head (leb (size_of (slot t i)) most_value) [] (all_rest (leb trailer_size (size_of (slot t i))) _ sizes)) in
    (omega (arith, most, value-size (slot t i) (slot-long t i l)), least, most)

pub held-is-found : HeldIsFound
held-is-found = record { held = slot-holds; found = value_found; missing = none_found; whole = all_there }

-- ---- what is offered
broken-first : (t k v : List ℕ) → in_form t ≡ true → is_key k ≡ true → is_recipe v ≡ false → put_answer t k v ≡ Err BrokenRecipe
unfolding offer_answer plan_of answer_of
broken-first t k v form e r = (put_is t k v form).0 ∙ rw (e, r) refl

module _ (t k u v : List ℕ) (form : in_form t ≡ true) (g : got t k ≡ Some u) (r : is_recipe v ≡ true) where
  -- identical bytes don't outrank each other
  compared : (s o : Bool) → same u v ≡ s → outranks u v ≡ o → answer_of (cond s (Ok None) (cond o (Err Outranked) (Ok (Some (slot_with t k))))) ≡ cond o (Err Outranked) (Ok tt)
  unfolding answer_of
  compared true true es eo = absurd (not-both (outranks u v) eo (subst (λ (x : List ℕ). outranks u x ≡ false) (same-eq u v es) (outranks-self u)))
  compared true false es eo = refl
  compared false true es eo = refl
  compared false false es eo = refl

  answer : put_answer t k v ≡ cond (outranks u v) (Err Outranked) (Ok tt)
  unfolding offer_answer plan_of held_plan
  answer =
      (put_is t k v form).0
      ∙ rw (held-key t k u g form, r, lt-ltb (slot_with t k) (slots_of t) (held_in t k u g), held-value t k u g)
      (compared (same u v) (outranks u v) refl refl)

  after-it : (o : Bool) → cond (taken (cond o (Err Outranked) (Ok tt)) && true) (Some v) (Some u) ≡ Some (cond o u v)
  unfolding taken
  after-it true = refl
  after-it false = refl

  then-ranked : (put_answer t k v ≡ cond (outranks u v) (Err Outranked) (Ok tt)) × (got (put_after t k v) k ≡ Some (cond (outranks u v) u v))
  then-ranked = (answer, put-got t k v k ∙ rw (answer, same_refl k, g) (after-it (outranks u v)))

pub judged-first : JudgedFirst
judged-first = record { broken = broken-first; ranked = then-ranked }

-- ---- the other numbers
broken-form : (t k v : List ℕ) → in_form t ≡ false → put_answer t k v ≡ Err OutOfForm
unfolding put_answer
broken-form t k v f = rw f refl

breaks : (t k v : List ℕ) → in_form t ≡ true → is_key k ≡ false → put_answer t k v ≡ Err BreaksRules
unfolding offer_answer plan_of answer_of
breaks t k v form e = (put_is t k v form).0 ∙ rw e refl

module _ (t k v : List ℕ) (form : in_form t ≡ true) (e : is_key k ≡ true) (r : is_recipe v ≡ true) (g : got t k ≡ None) where
  -- taken where a slot is free, else 11
  new_told : put_answer t k v ≡ cond (ltb (free_slot t) (slots_of t)) (Ok tt) (Err NoRecordSlot)
  unfolding offer_answer plan_of answer_of
  new_told = (put_is t k v form).0 ∙ rw (e, r, not_in t k g) (cond-ap answer_of (ltb (free_slot t) (slots_of t)) (Ok (Some (free_slot t))) (Err NoRecordSlot))

  no_slot : ((j : ℕ) → j < slots_of t → used (slot t j) ≡ true) → put_answer t k v ≡ Err NoRecordSlot
  unfolding free_slot is_free
  no_slot h =
      let m : slots_of t ≡ free_slot t = first-miss (is_free t) (slots_of t) (λ j l. ap not (h j l)) in
      new_told ∙ cond_no _ _ _ (le-ltb (free_slot t) (slots_of t) (omega (arith, m)))

  joins-it : (j : ℕ) → j < slots_of t → used (slot t j) ≡ false → put_answer t k v ≡ Ok tt
  unfolding free_slot is_free
  joins-it j l h = new_told ∙ cond_yes _ _ _ (lt-ltb (free_slot t) (slots_of t) (first-lt (is_free t) (slots_of t) j l (ap not h)))

  pub joins-unless-11 : (put_answer t k v ≡ Err NoRecordSlot → ⊥) → put_answer t k v ≡ Ok tt
  joins-unless-11 room = ⊎_elim (λ b. new_told ∙ cond_yes _ _ _ b) (λ b. absurd (room (new_told ∙ cond_no _ _ _ b))) (either (ltb (free_slot t) (slots_of t)))

pub put-told : PutTold
put-told = record { out_of_form = broken-form; rules = breaks; full = no_slot; new = joins-it }
