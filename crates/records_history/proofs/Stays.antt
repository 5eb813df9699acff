-- The theorems of the store. Form is kept; a put for one key changes no other key's record; what is found under a key is the highest-ranking record
-- accepted for it, and stays until a higher-ranking one is accepted, over any list of puts. Assumes nothing.
use mathlib.Core.Path.{◌≡◌, refl, sym, ap, ◌∙◌, subst}
use mathlib.Core.Logic.{◌⊎◌, inl, inr, ⊎_elim}
use mathlib.Core.Bool.{Bool, true, false, not, ◌&&◌, cond}
use mathlib.Core.List.{List, [], ◌∷◌}
use Prim.Native.Nat.{ℕ, zero, suc, ◌+◌, ◌*◌, ◌<◌}
use native.Mathlib.Omega.{arith}
use lib.Dec.{ltb}
use lib.ListN.{get_or}
use borrow.Author.Tests.{ltb-true, ltb-false, eq-eqb}
use Rattle.octets.specs.Octets.{part, same}
use Rattle.octets.proofs.Bools.{and-fails, not-both, to-false, either, cond_ind}
use Rattle.octets.proofs.Searching.{all-intro}
use Rattle.octets.proofs.Parts.{part_at}
use Rattle.octets.proofs.Strings.{same-eq, same-yes, same-no, differ}
use Rattle.refusal.specs.declared.Refusal.TheVariants.{OutOfForm, BreaksRules, BrokenRecipe, Outranked, NoRecordSlot}
use Rattle.recipe.specs.Recipe.{is_recipe, outranks}
use Rattle.recipe.proofs.Rank.{outranks-total, outranks-self, outranked-not}
use Rattle.records.specs.Limits.{slot_size}
use Rattle.records.specs.Store.{slots_of, slot, used, value_of, is_key, fits, in_form, slot_with, free_slot, held_plan, plan_of, answer_of, after_of, offer_answer, offer_after, put_answer, put_after}
use Rattle.records_history.specs.History.{got, taken, Offer, accepts, offered, after, Accepted, Unbeaten, cleared}
use Rattle.records_history.specs.Agree.{NoRecords}
use Rattle.record_slots.proofs.Finding.{with-holds, holds-out}
use Rattle.records.proofs.Putting.{write-where, put-out, put-answer, put-after}
use Rattle.records_history.proofs.Kept.{got-held, got-none, fits_in, write-got, write-other, write-form}
use Rattle.std.specs.Prelude.{Ok, Err, Some, None, Result, Option}
use Rattle.refusal.specs.declared.Refusal.{Refusal}

pub has : {x y : List ℕ} → Some x ≡ Some y → x ≡ y
has q = cc

pub none : {x : List ℕ} → None ≡ Some x → ⊥
none q = let z : ◌≡◌ {A = ℕ} 0 1 = cc in omega arith

-- ---- a plan to keep: the same bytes are held
Kept : Bool → Result (Option ℕ) Refusal → Type 0
Kept f h = (f ≡ true) × (h ≡ Ok None)

keep_out : (a b f : Bool) (h : Result (Option ℕ) Refusal) (g : Bool) (n : ℕ) → cond (not a) (Err BreaksRules) (cond (not b) (Err BrokenRecipe) (cond f h (cond g (Ok (Some n)) (Err NoRecordSlot)))) ≡ Ok None → Kept f h
unfolding Kept
keep_out false b f h g n e = let z : ◌≡◌ {A = ℕ} 0 1 = cc in absurd (omega arith)
keep_out true false f h g n e = let z : ◌≡◌ {A = ℕ} 0 1 = cc in absurd (omega arith)
keep_out true true true h g n e = (refl, e)
keep_out true true false h true n e = let z : ◌≡◌ {A = ℕ} 0 1 = cc in absurd (omega arith)
keep_out true true false h false n e = let z : ◌≡◌ {A = ℕ} 0 1 = cc in absurd (omega arith)

keep_same : (a b : Bool) (j : ℕ) → cond a (Ok None) (cond b (Err Outranked) (Ok (Some j))) ≡ Ok None → a ≡ true
keep_same true b j e = refl
keep_same false true j e = let z : ◌≡◌ {A = ℕ} 0 1 = cc in absurd (omega arith)
keep_same false false j e = let z : ◌≡◌ {A = ℕ} 0 1 = cc in absurd (omega arith)

pub keep-got : (t k v : List ℕ) → plan_of t k v ≡ Ok None → got t k ≡ Some v
unfolding plan_of held_plan Kept
keep-got t k v e =
    let i : ℕ = slot_with t k in
    let w = keep_out (is_key k) (is_recipe v) (ltb (slot_with t k) (slots_of t)) (held_plan (value_of (slot t (slot_with t k))) v (slot_with t k)) (ltb (free_slot t) (slots_of t)) (free_slot t) e in
    let s : same (value_of (slot t (slot_with t k))) v ≡ true = keep_same (same (value_of (slot t (slot_with t k))) v) (outranks (value_of (slot t (slot_with t k))) v) (slot_with t k) w.1 in
    got-held t k (slot_with t k) refl (ltb-true (slot_with t k) (slots_of t) w.0) ∙ ap Some (same-eq (value_of (slot t (slot_with t k))) v s)

-- ---- an offer to a store of any bytes, whatever its answer
module _ (t k v : List ℕ) where
  -- what the store gives for any key after it: a put for one key changes no other key's record
  pub offer-got : (k' : List ℕ) → got (offer_after t k v) k' ≡ cond (taken (offer_answer t k v) && same k k') (Some v) (got t k')
  unfolding offer_after offer_answer after_of answer_of taken
  offer-got k' = go (plan_of t k v) refl (same k k') refl
    where
      goal : Result (Option ℕ) Refusal → Type 0
      goal p = got (after_of t k v p) k' ≡ cond (taken (answer_of p) && same k k') (Some v) (got t k')

      at : (p : Result (Option ℕ) Refusal) → plan_of t k v ≡ p → (b : Bool) → same k k' ≡ b → goal p
      at (Ok (Some i)) e true q = rw (q, ← same-eq k k' q) (write-got t k v i e)
      at (Ok (Some i)) e false q = rw q (write-other t k v i e k' (differ k k' q))
      at (Ok None) e true q = rw (q, ← same-eq k k' q) (keep-got t k v e)
      at (Ok None) e false q = rw q
      at (Err r) e b q = refl

      go : (p : Result (Option ℕ) Refusal) → plan_of t k v ≡ p → (b : Bool) → same k k' ≡ b → goal (plan_of t k v)
      go p e b q = subst goal (sym e) (at p e b q)

  -- what is taken isn't outranked by what was held
  pub offer-rank : (u : List ℕ) → got t k ≡ Some u → taken (offer_answer t k v) ≡ true → outranks u v ≡ false
  unfolding offer_answer answer_of taken
  offer-rank u g h = at (plan_of t k v) refl h
    where
      held : (i : ℕ) → slot_with t k < slots_of t → slot_with t k ≡ i → outranks (value_of (slot t (slot_with t k))) v ≡ false → outranks u v ≡ false
      held i l q r = subst (λ (x : List ℕ). outranks x v ≡ false) (has (sym (got-held t k (slot_with t k) refl l) ∙ g)) r

      at : (p : Result (Option ℕ) Refusal) → plan_of t k v ≡ p → taken (answer_of p) ≡ true → outranks u v ≡ false
      at (Ok (Some i)) e y = ⊎_elim (λ w. held i w.0 w.1 w.2) (λ w. absurd (none (sym (got-none t k w.0) ∙ g))) (write-where t k v i e)
      at (Ok None) e y = subst (λ (x : List ℕ). outranks x v ≡ false) (has (sym (keep-got t k v e) ∙ g)) (outranks-self v)
      at (Err r) e y = absurd (not-both false y refl)

  pub offer-form : in_form t ≡ true → in_form (offer_after t k v) ≡ true
  unfolding offer_after after_of
  offer-form form = at (plan_of t k v) refl
    where
      at : (p : Result (Option ℕ) Refusal) → plan_of t k v ≡ p → in_form (after_of t k v (plan_of t k v)) ≡ true
      at (Ok (Some i)) e = rw e (write-form t k v i e form)
      at (Ok None) e = rw e form
      at (Err r) e = rw e form

-- ---- the host's put
module _ (t k v : List ℕ) where
  pub put_is : in_form t ≡ true → (put_answer t k v ≡ offer_answer t k v) × (put_after t k v ≡ offer_after t k v)
  put_is form = (sym (put-answer t k v (sym form) refl refl), sym (put-after t k v (sym form) refl refl))

  pub put-got : (k' : List ℕ) → got (put_after t k v) k' ≡ cond (taken (put_answer t k v) && same k k') (Some v) (got t k')
  unfolding taken
  put-got k' = go (in_form t) refl
    where
      go : (b : Bool) → in_form t ≡ b → got (put_after t k v) k' ≡ cond (taken (put_answer t k v) && same k k') (Some v) (got t k')
      go true f = rw ((put_is f).0, (put_is f).1) (offer-got t k v k')
      go false f = rw (← (put-out t k v (sym f) refl).0, ← (put-out t k v (sym f) refl).1)

  -- a put for one key changes no other key's record
  pub put_other : (k' : List ℕ) → (k ≡ k' → ⊥) → got (put_after t k v) k' ≡ got t k'
  put_other k' ne = put-got k' ∙ rw (and-fails (taken (put_answer t k v)) (same k k') (same-no k k' ne))

  -- one that is refused changes nothing at all
  pub put_refused : taken (put_answer t k v) ≡ false → put_after t k v ≡ t
  unfolding taken offer_answer offer_after answer_of after_of
  put_refused h = go (in_form t) refl
    where
      at : (p : Result (Option ℕ) Refusal) → plan_of t k v ≡ p → taken (answer_of (plan_of t k v)) ≡ false → after_of t k v (plan_of t k v) ≡ t
      at (Ok (Some i)) e y = absurd (not-both (taken (answer_of (plan_of t k v))) (rw e refl) y)
      at (Ok None) e y = rw e refl
      at (Err r) e y = rw e refl

      go : (b : Bool) → in_form t ≡ b → put_after t k v ≡ t
      go true f = (put_is f).1 ∙ at (plan_of t k v) refl (ap taken (sym (put_is f).0) ∙ h)
      go false f = sym (put-out t k v (sym f) refl).1

  -- form is kept
  pub put-form : in_form t ≡ true → in_form (put_after t k v) ≡ true
  put-form form = ap in_form (put_is form).1 ∙ offer-form t k v form

  -- and a store in form never gives 0
  pub never-0 : in_form t ≡ true → put_answer t k v ≡ Err OutOfForm → ⊥
  unfolding offer_answer plan_of held_plan answer_of
  never-0 form e =
      cond_ind Not0 (not (is_key k)) _ _ (λ _ q. let z : ◌≡◌ {A = ℕ} 0 1 = cc in omega arith)
      (λ _. cond_ind Not0 (not (is_recipe v)) _ _ (λ _ q. let z : ◌≡◌ {A = ℕ} 0 1 = cc in omega arith)
      (λ _. cond_ind Not0 (ltb (slot_with t k) (slots_of t)) _ _
      (λ _. cond_ind Not0 (same (value_of (slot t (slot_with t k))) v) _ _ (λ _ q. let z : ◌≡◌ {A = ℕ} 0 1 = cc in omega arith)
      (λ _. cond_ind Not0 (outranks (value_of (slot t (slot_with t k))) v) _ _ (λ _ q. let z : ◌≡◌ {A = ℕ} 0 1 = cc in omega arith) (λ _ q. let z : ◌≡◌ {A = ℕ} 0 1 = cc in omega arith)))
      (λ _. cond_ind Not0 (ltb (free_slot t) (slots_of t)) _ _ (λ _ q. let z : ◌≡◌ {A = ℕ} 0 1 = cc in omega arith) (λ _ q. let z : ◌≡◌ {A = ℕ} 0 1 = cc in omega arith))))
      (sym (put_is form).0 ∙ e)
    where
      Not0 : Result (Option ℕ) Refusal → Type 0
      Not0 p = answer_of p ≡ Err OutOfForm → ⊥

-- ---- memory once cleared
zeros : (n i : ℕ) → get_or (cleared n) i 0 ≡ 0
zeros zero i = refl
zeros (suc n) zero = refl
zeros (suc n) (suc i) = zeros n i

pub cleared-free : (n : ℕ) → NoRecords (cleared n)
unfolding used slot
cleared-free n j l =
    let first : get_or (part (cleared n) (j * slot_size) (j * slot_size + slot_size)) 0 0 ≡ 0 =
    part_at (cleared n) (j * slot_size) (j * slot_size + slot_size) 0 (omega arith) ∙ zeros n (j * slot_size + 0) in
    ap not (eq-eqb (get_or (part (cleared n) (j * slot_size) (j * slot_size + slot_size)) 0 0) 0 first)

-- where no slot is used there is form, and nothing is found
pub free-form : (t : List ℕ) → NoRecords t → in_form t ≡ true
unfolding in_form
free-form t e = all-intro (fits t) (slots_of t) (λ j l. fits_in t j (λ u. absurd (not-both (used (slot t j)) u (e j l))))

pub free-none : (t k : List ℕ) → NoRecords t → got t k ≡ None
free-none t k e = got-none t k (⊎_elim (λ b. absurd (held (ltb-true (slot_with t k) (slots_of t) b))) (λ b. ltb-false (slot_with t k) (slots_of t) b) (either (ltb (slot_with t k) (slots_of t))))
  where
    held : slot_with t k < slots_of t → ⊥
    held l = not-both (used (slot t (slot_with t k))) (holds-out t k (slot_with t k) (with-holds t k l)).0 (e (slot_with t k) l)

pub cleared-form : (n : ℕ) → in_form (cleared n) ≡ true
cleared-form n = free-form (cleared n) (cleared-free n)

-- form is kept by every list of puts
pub form-kept : (t : List ℕ) (os : List Offer) → in_form t ≡ true → in_form (after t os) ≡ true
unfolding after offered
form-kept t [] form = form
form-kept t (o ∷ os) form = form-kept (put_after t o.key o.value) os (put-form t o.key o.value form)

-- ---- over any list of puts
-- what a key gives after one more put
module _ (k t : List ℕ) (o : Offer) where
  pub step-taken : o.key ≡ k → accepts t o ≡ true → got (offered t o) k ≡ Some o.value
  unfolding accepts offered
  step-taken e h = put-got t o.key o.value k ∙ rw (h, same-yes o.key k e)

  -- either it was accepted for the key, or nothing changed for it
  pub step-cases : ((o.key ≡ k) × (accepts t o ≡ true)) ⊎ (got (offered t o) k ≡ got t k)
  unfolding accepts offered
  step-cases = go (taken (put_answer t o.key o.value)) refl (same o.key k) refl
    where
      go : (a : Bool) → taken (put_answer t o.key o.value) ≡ a → (b : Bool) → same o.key k ≡ b
          → ((o.key ≡ k) × (taken (put_answer t o.key o.value) ≡ true)) ⊎ (got (put_after t o.key o.value) k ≡ got t k)
      go true p true q = inl (same-eq o.key k q, p)
      go true p false q = inr (put-got t o.key o.value k ∙ rw (p, q))
      go false p b q = inr (put-got t o.key o.value k ∙ rw p)

  -- what is accepted isn't outranked by what was held
  pub step-rank : (u : List ℕ) → o.key ≡ k → got t k ≡ Some u → accepts t o ≡ true → outranks u o.value ≡ false
  unfolding accepts taken
  step-rank u e g h = go (in_form t) refl
    where
      go : (b : Bool) → in_form t ≡ b → outranks u o.value ≡ false
      go true f = offer-rank t o.key o.value u (ap (got t) e ∙ g) (ap taken (sym (put_is t o.key o.value f).0) ∙ h)
      go false f = absurd (not-both (taken (put_answer t o.key o.value)) h (ap taken (sym (put-out t o.key o.value (sym f) refl).0)))

-- a value that is held gives way only to values that it doesn't outrank
abbrev pub Over : List ℕ → Option (List ℕ) → Type 0
Over w g = (u : List ℕ) × (g ≡ Some u) × (outranks w u ≡ false)

gives-way : (k w x t : List ℕ) (os : List Offer) → got t k ≡ Some x → outranks w x ≡ false → Over w (got (after t os) k)
unfolding after
gives-way k w x t [] g h = (x, g, h)
gives-way k w x t (o ∷ os) g h =
    ⊎_elim (λ c. gives-way k w o.value (offered t o) os (step-taken k t o c.0 c.1) (outranked-not w x o.value h (step-rank k t o x c.0 g c.1)))
    (λ q. gives-way k w x (offered t o) os (q ∙ g) h) (step-cases k t o)

-- the record found under a key is the highest-ranking one accepted for it: none that was accepted ranks higher ..
pub highest : (k v t : List ℕ) (os : List Offer) → Accepted k v t os → (u : List ℕ) × (got (after t os) k ≡ Some u) × (outranks v u ≡ false)
unfolding Accepted after
highest k v t [] a = absurd a
highest k v t (o ∷ os) (inl a) =
    gives-way k v v (offered t o) os (step-taken k t o a.0 a.2 ∙ ap Some a.1) (outranks-self v)
highest k v t (o ∷ os) (inr a) = highest k v (offered t o) os a

-- .. and it was accepted itself, or was held from the start
pub found-accepted : (k u t : List ℕ) (os : List Offer) → got (after t os) k ≡ Some u → (got t k ≡ Some u) ⊎ Accepted k u t os
unfolding Accepted after
found-accepted k u t [] g = inl g
found-accepted k u t (o ∷ os) g = ⊎_elim (λ e. here e) (λ a. inr (inr a)) (found-accepted k u (offered t o) os g)
  where
    here : got (offered t o) k ≡ Some u → (got t k ≡ Some u) ⊎ (((o.key ≡ k) × (o.value ≡ u) × (accepts t o ≡ true)) ⊎ Accepted k u (offered t o) os)
    here e = ⊎_elim (λ c. inr (inl (c.0, has (sym (step-taken k t o c.0 c.1) ∙ e), c.1))) (λ q. inl (sym q ∙ e)) (step-cases k t o)

-- it stays until a higher-ranking one is accepted
pub holds_on : (k v t : List ℕ) (os : List Offer) → got t k ≡ Some v → Unbeaten k v t os → got (after t os) k ≡ Some v
unfolding after Unbeaten
holds_on k v t [] g u = g
holds_on k v t (o ∷ os) g u = holds_on k v (offered t o) os (⊎_elim (λ c. equal c.0 c.1) (λ q. q ∙ g) (step-cases k t o)) u.1
  where
    equal : o.key ≡ k → accepts t o ≡ true → got (offered t o) k ≡ Some v
    equal e h =
        step-taken k t o e h
        ∙ ap Some (outranks-total o.value v (to-false (outranks o.value v) (u.0 e h)) (step-rank k t o v e g h))

pub stays : (t : List ℕ) (o : Offer) (os : List Offer) → accepts t o ≡ true → Unbeaten o.key o.value (offered t o) os
    → got (after (offered t o) os) o.key ≡ Some o.value
stays t o os h u = holds_on o.key o.value (offered t o) os (step-taken o.key t o refl h) u
