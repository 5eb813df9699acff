-- Laws of a put: which plan the tests lead to, what a plan to write says. Assumes nothing.
use mathlib.Core.Path.{◌≡◌, refl, sym, ap, ◌∙◌}
use mathlib.Core.Logic.{◌⊎◌, inl, inr, ⊎_elim}
use mathlib.Core.Bool.{Bool, true, false, not, cond}
use mathlib.Core.List.{List}
use Prim.Native.Nat.{ℕ, ◌+◌, ◌*◌, ◌<◌, ◌≤◌, min}
use native.Mathlib.Omega.{arith}
use lib.Dec.{ltb}
use lib.ListN.{length}
use lib.Seq.{sets}
use borrow.Author.Tests.{lt-ltb, le-ltb, ltb-true, ltb-false}
use Rattle.octets.specs.Octets.{same}
use Rattle.octets.proofs.Bools.{cond_yes, cond_no}
use Rattle.limits.specs.Limits.{most_value}
use Rattle.refusal.specs.declared.Refusal.{Refusal}
use Rattle.refusal.specs.declared.Refusal.TheVariants.{OutOfForm, BreaksRules, BrokenRecipe, Outranked, NoRecordSlot}
use Rattle.recipe.specs.Recipe.{is_recipe, outranks}
use Rattle.recipe.proofs.Trailer.{recipe-most}
use Rattle.record_slots.specs.Limits.{value_at, slot_size}
use Rattle.record_slots.specs.Slots.{slots_of, slot, size_of, value_of, slot_bytes, is_key, in_form, slot_with, free_slot}
use Rattle.records.specs.Store.{between, held_at, found, find_of, held_plan, plan_of, answer_of, after_of, offer_answer, offer_after, put_answer, put_after}
use Rattle.records.specs.Inner.{Fitting}
use Rattle.record_slots.proofs.Laying.{slot-in, slot-long, value-size, key-most}
use Rattle.std.specs.Prelude.{Ok, Err, Some, None, Result, Option, ⊤}
use Rattle.records.specs.declared.Held.{Held}

-- ---- the steps of `look` and `find`
module _ (t k : List ℕ) {i n : ℕ} (ei : i ≡ slot_with t k) (en : n ≡ slots_of t) where
  pub look_none : n ≤ i → (Ok None) ≡ found t k
  unfolding found
  look_none h = sym (cond_no (ltb (slot_with t k) (slots_of t)) (held_at t (slot_with t k)) (Ok None) (le-ltb (slot_with t k) (slots_of t) (omega arith)))

  pub look-held : i < n → {s : List ℕ} {m : ℕ} → s ≡ slot t i → m ≡ min (size_of s) most_value → (Ok (Some (between (i * slot_size + value_at) (i * slot_size + value_at + m)))) ≡ found t k
  unfolding found held_at
  look-held h {s} {m} es em =
      let l : i < slots_of t = omega arith in
      let w : m ≡ length (value_of (slot t i)) = em ∙ ap (λ (x : List ℕ). min (size_of x) most_value) es ∙ sym (value-size (slot t i) (slot-long t i l)) in
      rw w (rw ei (sym (cond_yes (ltb (slot_with t k) (slots_of t)) (held_at t (slot_with t k)) (Ok None) (lt-ltb (slot_with t k) (slots_of t) (omega arith)))))

module _ (t k : List ℕ) {b : Bool} (eb : b ≡ in_form t) where
  pub find-out : b ≡ false → Err OutOfForm ≡ find_of t k
  unfolding find_of
  find-out z = rw (← eb, z)

  pub find-in : b ≡ true → {f : (Result (Option Held) Refusal)} → f ≡ found t k → f ≡ find_of t k
  unfolding find_of
  find-in z e = e ∙ rw (← eb, z)

-- ---- the steps of `plan_put`
module _ (t k v : List ℕ) {b : Bool} (eb : b ≡ is_key k) where
  pub plan-key : b ≡ false → Err BreaksRules ≡ plan_of t k v
  unfolding plan_of
  plan-key z = rw (← eb, z)

  module _ (yb : b ≡ true) {r : Bool} (er : r ≡ is_recipe v) where
    pub plan-recipe : r ≡ false → Err BrokenRecipe ≡ plan_of t k v
    unfolding plan_of
    plan-recipe z = rw (← eb, yb, ← er, z)

    module _ (yr : r ≡ true) {i n : ℕ} (ei : i ≡ slot_with t k) (en : n ≡ slots_of t) where
      pub plan-held : i < n → {s h : List ℕ} {p : (Result (Option ℕ) Refusal)} → s ≡ slot t i → h ≡ value_of s → p ≡ held_plan h v i → p ≡ plan_of t k v
      unfolding plan_of
      plan-held l es eh ep =
          let q : slot_with t k < slots_of t = omega arith in
          ep ∙ rw (← eb, yb, ← er, yr, lt-ltb (slot_with t k) (slots_of t) q, ← ei, ← es, eh)

      module _ (g : n ≤ i) {j : ℕ} (ej : j ≡ free_slot t) where
        rest : plan_of t k v ≡ cond (ltb (free_slot t) (slots_of t)) (Ok (Some (free_slot t))) (Err NoRecordSlot)
        unfolding plan_of
        rest = let q : slots_of t ≤ slot_with t k = omega arith in rw (← eb, yb, ← er, yr, le-ltb (slot_with t k) (slots_of t) q)

        pub plan-free : j < n → (Ok (Some j)) ≡ plan_of t k v
        plan-free l = ap (λ (x : ℕ). Ok (Some x)) ej ∙ sym (rest ∙ cond_yes (ltb (free_slot t) (slots_of t)) (Ok (Some (free_slot t))) (Err NoRecordSlot) (lt-ltb (free_slot t) (slots_of t) (omega arith)))

        pub plan-full : n ≤ j → Err NoRecordSlot ≡ plan_of t k v
        plan-full l = sym (rest ∙ cond_no (ltb (free_slot t) (slots_of t)) (Ok (Some (free_slot t))) (Err NoRecordSlot) (le-ltb (free_slot t) (slots_of t) (omega arith)))

-- ---- what a plan to write says
held_out : (a b : Bool) (j i : ℕ) → cond a (Ok None) (cond b (Err Outranked) (Ok (Some j))) ≡ Ok (Some i) → (j ≡ i) × (b ≡ false)
held_out true b j i e = let z : ◌≡◌ {A = ℕ} 0 1 = cc in absurd (omega arith)
held_out false true j i e = let z : ◌≡◌ {A = ℕ} 0 1 = cc in absurd (omega arith)
held_out false false j i e = let z : j ≡ i = cc in (z, refl)

Wrote : Bool → Bool → Bool → Result (Option ℕ) Refusal → Bool → ℕ → ℕ → Type 0
Wrote a b f h g n i = (a ≡ true) × (b ≡ true) × (((f ≡ true) × (h ≡ Ok (Some i))) ⊎ ((f ≡ false) × (g ≡ true) × (n ≡ i)))

invert : (a b f : Bool) (h : Result (Option ℕ) Refusal) (g : Bool) (n i : ℕ)
    → cond (not a) (Err BreaksRules) (cond (not b) (Err BrokenRecipe) (cond f h (cond g (Ok (Some n)) (Err NoRecordSlot)))) ≡ Ok (Some i) → Wrote a b f h g n i
unfolding Wrote
invert false b f h g n i e = let z : ◌≡◌ {A = ℕ} 0 1 = cc in absurd (omega arith)
invert true false f h g n i e = let z : ◌≡◌ {A = ℕ} 0 1 = cc in absurd (omega arith)
invert true true true h g n i e = (refl, refl, inl (refl, e))
invert true true false h true n i e = let z : n ≡ i = cc in (refl, refl, inr (refl, refl, z))
invert true true false h false n i e = let z : ◌≡◌ {A = ℕ} 0 1 = cc in absurd (omega arith)

module _ (t k v : List ℕ) (i : ℕ) (e : plan_of t k v ≡ Ok (Some i)) where
  wrote : Wrote (is_key k) (is_recipe v) (ltb (slot_with t k) (slots_of t)) (held_plan (value_of (slot t (slot_with t k))) v (slot_with t k)) (ltb (free_slot t) (slots_of t)) (free_slot t) i
  unfolding plan_of
  wrote = invert (is_key k) (is_recipe v) (ltb (slot_with t k) (slots_of t)) (held_plan (value_of (slot t (slot_with t k))) v (slot_with t k)) (ltb (free_slot t) (slots_of t)) (free_slot t) i e

  pub write-key : is_key k ≡ true
  unfolding Wrote
  write-key = wrote.0

  pub write-recipe : is_recipe v ≡ true
  unfolding Wrote
  write-recipe = wrote.1

  -- the slot held that key and didn't rank higher, or the key wasn't held and the slot was the lowest free one
  pub write-where : ((slot_with t k < slots_of t) × (slot_with t k ≡ i) × (outranks (value_of (slot t (slot_with t k))) v ≡ false)) ⊎ ((slots_of t ≤ slot_with t k) × (free_slot t < slots_of t) × (free_slot t ≡ i))
  unfolding Wrote held_plan
  write-where = ⊎_elim (λ w. inl (held w.0 w.1)) (λ w. inr (ltb-false (slot_with t k) (slots_of t) w.0, ltb-true (free_slot t) (slots_of t) w.1, w.2)) wrote.2
    where
      held : ltb (slot_with t k) (slots_of t) ≡ true → held_plan (value_of (slot t (slot_with t k))) v (slot_with t k) ≡ Ok (Some i) → (slot_with t k < slots_of t) × (slot_with t k ≡ i) × (outranks (value_of (slot t (slot_with t k))) v ≡ false)
      held f q =
          let r = held_out (same (value_of (slot t (slot_with t k))) v) (outranks (value_of (slot t (slot_with t k))) v) (slot_with t k) i q in
          (ltb-true (slot_with t k) (slots_of t) f, r.0, r.1)

  pub write-in : i < slots_of t
  write-in = ⊎_elim (λ w. omega (arith, w.0, w.1)) (λ w. omega (arith, w.1, w.2)) write-where

  pub write-fits : Fitting t (i * slot_size) k v
  write-fits = record { inside = slot-in t i write-in; key_fits = key-most k write-key; value-fits = recipe-most v write-recipe }

-- ---- the steps of `offer` and `put`
module _ (t k v : List ℕ) {p q : (Result (Option ℕ) Refusal)} (ep : p ≡ plan_of t k v) (yp : p ≡ q) where
  pub plan-is : plan_of t k v ≡ q
  plan-is = sym ep ∙ yp

  pub offer-answer : answer_of q ≡ offer_answer t k v
  unfolding offer_answer
  offer-answer = sym (ap answer_of plan-is)

  pub offer-after : after_of t k v q ≡ offer_after t k v
  unfolding offer_after
  offer-after = sym (ap (after_of t k v) plan-is)

module _ (t k v : List ℕ) {p : (Result (Option ℕ) Refusal)} (ep : p ≡ plan_of t k v) where
  pub offer-write : {i : ℕ} → p ≡ Ok (Some i) → {x : List ℕ} → x ≡ sets t (i * slot_size) (slot_bytes k v) → ((Ok tt) ≡ offer_answer t k v) × (x ≡ offer_after t k v)
  unfolding answer_of after_of
  offer-write yp e = (offer-answer t k v ep yp, e ∙ offer-after t k v ep yp)

  pub offer-keep : p ≡ Ok None → ((Ok tt) ≡ offer_answer t k v) × (t ≡ offer_after t k v)
  unfolding answer_of after_of
  offer-keep yp = (offer-answer t k v ep yp, offer-after t k v ep yp)

  pub offer-refuse : {r : Refusal} → p ≡ Err r → (Err r ≡ offer_answer t k v) × (t ≡ offer_after t k v)
  unfolding answer_of after_of
  offer-refuse yp = (offer-answer t k v ep yp, offer-after t k v ep yp)

module _ (t k v : List ℕ) {b : Bool} (eb : b ≡ in_form t) where
  pub put-out : b ≡ false → (Err OutOfForm ≡ put_answer t k v) × (t ≡ put_after t k v)
  unfolding put_answer put_after
  put-out z = let q : in_form t ≡ false = sym eb ∙ z in (rw q refl, rw q refl)

  module _ (z : b ≡ true) where
    pub put-answer : {a : (Result ⊤ Refusal)} → a ≡ offer_answer t k v → a ≡ put_answer t k v
    unfolding put_answer
    put-answer e = let q : in_form t ≡ true = sym eb ∙ z in e ∙ rw q refl

    pub put-after : {x : List ℕ} → x ≡ offer_after t k v → x ≡ put_after t k v
    unfolding put_after
    put-after e = let q : in_form t ≡ true = sym eb ∙ z in e ∙ rw q refl
