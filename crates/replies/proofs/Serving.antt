-- From a key and a record to an answer: keys, and the store's answers. Assumes nothing.
use Prim.Native.Nat.{ℕ, ◌+◌, ◌-◌, ◌*◌, ◌≤◌, ◌<◌}
use mathlib.Core.Path.{◌≡◌, refl, sym, ap, ◌∙◌}
use mathlib.Core.Logic.{⊎_elim}
use mathlib.Core.Bool.{Bool, true, false, cond, not}
use mathlib.Core.List.{List}
use native.Mathlib.Omega.{arith}
use lib.ListN.{length}
use lib.Dec.{leb, ltb}
use borrow.Author.Tests.{leb-true, le-leb, lt-leb, ltb-true}
use Rattle.octets.specs.Octets.{part, same}
use Rattle.octets.proofs.Bools.{either, not-both, and_r, and-off, and-on}
use Rattle.octets.proofs.Parts.{part-size}
use Rattle.limits.specs.Limits.{most_key, most_value}
use Rattle.refusal.specs.declared.Refusal.{Refusal}
use Rattle.refusal.specs.declared.Refusal.TheVariants.{BreaksRules, BrokenRecipe}
use Rattle.recipe.specs.Recipe.{is_recipe}
use Rattle.recipe.proofs.Trailer.{recipe-most}
use Rattle.records.specs.Limits.{slot_size, value_at}
use Rattle.records.specs.Store.{between, slots_of, slot, value_of, is_key, slot_with, plan_of, answer_of, after_of, held_at, found, offer_answer, offer_after}
use Rattle.record_slots.proofs.Laying.{slot-in, slot-long, value-size, key-least, key-most}
use Rattle.records.proofs.Putting.{plan-key, plan-recipe}
use Rattle.message.specs.Message.{Message}
use Rattle.pieces.specs.Writable.{record_with}
use Rattle.replies.specs.Replies.{put_value_reply}
use Rattle.replies.specs.Lent.{lent}
use Rattle.message.specs.Kinds.{key_fits}
use Rattle.replies.specs.Verdicts.{keyed, put_verdict, put_after, Dealt, put_dealt, Gives, Framed, Told}
use Rattle.std.specs.Prelude.{Ok, Err, Some, None, Result, Option}
use Rattle.records.specs.declared.Held.{Held}

-- ---- keys
module _ (key : List ℕ) (b : Bool) (e : b ≡ key_fits key) where
  pub fits-most : b ≡ true → length key ≤ 128
  unfolding key_fits
  fits-most y = leb-true (length key) most_key (and_r (leb 1 (length key)) (leb (length key) most_key) (sym e ∙ y))

  pub told-yes : b ≡ true → (m : Message) (buf buf₁ : List ℕ) (r : ℕ) → Framed m buf buf₁ r → Told (keyed key m) buf buf₁ (Ok r)
  unfolding keyed
  told-yes y m buf buf₁ r f = rw (← e, y) (record { answer = ap Ok f.size; same = f.same })

  pub told-no : b ≡ false → (m : Message) (buf : List ℕ) → Told (keyed key m) buf buf (Err BreaksRules)
  unfolding keyed
  told-no n m buf = rw (← e, n) (record { answer = refl; same = refl })

-- ---- the store
module _ (k key : List ℕ) (a z : ℕ) where
  pub record Lies : Type 0 where
    pub ordered : a ≤ z
    pub ends : z ≤ length k
    pub short : z ≤ a + most_value

  at_slot : (i : ℕ) → i < slots_of k → held_at k i ≡ Ok (Some (between a z)) → Lies
  unfolding held_at
  at_slot i h e =
      let p : between (i * slot_size + value_at) (i * slot_size + value_at + length (value_of (slot k i))) ≡ between a z = cc in
      let ea : i * slot_size + value_at ≡ a = ap (λ (h : Held). h.start) p in
      let ez : i * slot_size + value_at + length (value_of (slot k i)) ≡ z = ap (λ (h : Held). h.end) p in
      let l = slot-in k i h in
      let v = value-size (slot k i) (slot-long k i h) in
      record { ordered = omega arith; ends = omega arith; short = omega arith }

  pub held-lies : found k key ≡ Ok (Some (between a z)) → Lies
  unfolding found
  held-lies e = go (ltb (slot_with k key) (slots_of k)) refl e
    where
      go : (b : Bool) → ltb (slot_with k key) (slots_of k) ≡ b → cond b (held_at k (slot_with k key)) (Ok None) ≡ Ok (Some (between a z)) → Lies
      go true q e = at_slot (slot_with k key) (ltb-true (slot_with k key) (slots_of k) q) e
      go false q e = absurd (let w : ◌≡◌ {A = ℕ} 0 1 = cc in omega arith)

  pub value-short : Lies → length (part k a z) ≤ most_value
  value-short l =
      let e : a + (z - a) ≡ z = omega (arith, l.ordered) in
      let q : length (part k a (a + (z - a))) ≡ z - a = part-size k a (z - a) (omega (arith, l.ends, l.ordered)) in
      omega (arith, l.short, l.ordered, ap (λ (n : ℕ). length (part k a n)) e)

module _ (k key value : List ℕ) where
  no_key : is_key key ≡ false → offer_answer k key value ≡ Ok tt → ⊥
  unfolding offer_answer answer_of
  no_key n e =
      let q : plan_of k key value ≡ Err BreaksRules = sym (plan-key k key value refl n) in
      let y : Err BreaksRules ≡ (Ok tt) = rw q at e in
      let w : ◌≡◌ {A = ℕ} 0 1 = cc in
      omega arith

  is-key : offer_answer k key value ≡ Ok tt → is_key key ≡ true
  is-key e = ⊎_elim (λ q. q) (λ q. absurd (no_key q e)) (either (is_key key))

  no-recipe : is_key key ≡ true → is_recipe value ≡ false → offer_answer k key value ≡ Ok tt → ⊥
  unfolding offer_answer answer_of
  no-recipe y n e =
      let q : plan_of k key value ≡ Err BrokenRecipe = sym (plan-recipe k key value refl y refl n) in
      let z : Err BrokenRecipe ≡ (Ok tt) = rw q at e in
      let w : ◌≡◌ {A = ℕ} 0 1 = cc in
      omega arith

  -- what is taken is within the limits
  pub taken-fits : offer_answer k key value ≡ Ok tt → (1 ≤ length key) × (length key ≤ 128) × (length value ≤ most_value)
  taken-fits e =
      let y = is-key e in
      let v : is_recipe value ≡ true = ⊎_elim (λ q. q) (λ q. absurd (no-recipe y q e)) (either (is_recipe value)) in
      (omega (arith, key-least key y), key-most key y, recipe-most value v)

-- ---- PUT_VALUE
module _ (t k key rkey value y : List ℕ) (b : Bool) (e : b ≡ same rkey key) where
  abbrev D : Dealt
  D = put_dealt key (Some (record_with rkey value)) (lent t k y)

  pub put_other : not b ≡ true → Gives D (Err BreaksRules) k y
  unfolding put_verdict put_after record_with
  put_other n = rw (← e, flip b n) (record { told = refl; records = refl; reply = refl })
    where
      flip : (c : Bool) → not c ≡ true → c ≡ false
      flip true q = absurd (not-both false q refl)
      flip false q = refl

  module _ (n : not b ≡ false) (k₁ : List ℕ) (ek : k₁ ≡ offer_after k key value) where
    yes : b ≡ true
    yes = flip b n
      where
        flip : (c : Bool) → not c ≡ false → c ≡ true
        flip true q = refl
        flip false q = absurd (not-both true refl q)

    pub put-taken : offer_answer k key value ≡ Ok tt → (y₁ : List ℕ) (r : ℕ) → Framed (put_value_reply key value) y y₁ r → Gives D (Ok r) k₁ y₁
    unfolding put_verdict put_after record_with
    put-taken a y₁ r f = rw (← e, yes, a) (record { told = ap Ok f.size; records = ek; reply = f.same })

    stays : (r : Refusal) → offer_answer k key value ≡ Err r → offer_after k key value ≡ k
    unfolding offer_answer offer_after answer_of after_of
    stays r q = go (plan_of k key value) refl q
      where
        go : (p : Result (Option ℕ) Refusal) → plan_of k key value ≡ p → answer_of p ≡ Err r → after_of k key value (plan_of k key value) ≡ k
        go (Ok (Some i)) w q = absurd (let z : ◌≡◌ {A = ℕ} 0 1 = cc in omega arith)
        go (Ok None) w q = absurd (let z : ◌≡◌ {A = ℕ} 0 1 = cc in omega arith)
        go (Err s) w q = rw w

    pub put_refused : (r : Refusal) → offer_answer k key value ≡ Err r → Gives D (Err r) k₁ y
    unfolding put_verdict put_after record_with
    put_refused r q = rw (← e, yes, q) (record { told = refl; records = ek ∙ stays r q; reply = refl })
