-- Two stores that start with no records, are offered the same set of records and never give 11 hold the same: under each key the highest-ranking value that was
-- offered for it and that neither 8 nor 9 refuses. No proof here looks into what a recipe is; a slot needs of one that it has 16 to 3,072 bytes. Assumes nothing.
use mathlib.Core.Path.{◌≡◌, refl, sym, ap, ◌∙◌, subst}
use mathlib.Core.Logic.{◌⊎◌, inl, inr, ⊎_elim}
use mathlib.Core.Bool.{Bool, true, false, ◌&&◌, cond}
use mathlib.Core.List.{List, [], ◌∷◌, ◌++◌}
use Prim.Native.Nat.{ℕ}
use Rattle.octets.specs.Octets.{same}
use Rattle.octets.proofs.Bools.{and_l, and_r, and_i, and-off, to-false, either, cond_ind, cond_yes, cond_no}
use Rattle.octets.proofs.Strings.{same-eq, same-yes, differ}
use Rattle.recipe.specs.Recipe.{is_recipe, outranks}
use Rattle.recipe.proofs.Rank.{outranks-asym, outranks-total, outranks-self, outranked-not}
use Rattle.records.specs.Store.{slot, key_of, value_of, is_key, in_form, slot_with, put_answer, put_after}
use Rattle.refusal.specs.declared.Refusal.TheVariants.{NoRecordSlot}
use Rattle.record_slots.proofs.Finding.{with-holds, holds-out, holds-in}
use Rattle.records_history.specs.History.{got, taken, Offer, accepts, offered, after}
use Rattle.records_history.specs.Agree.{NoRecords, IsOffered, SameSet, Never11, Within, HoldSame, Counts, Highest, higher, held_from, held_after, Agrees, Agreement}
use Rattle.records_history.proofs.Stays.{has, none, Over, put_other, put_refused, put-form, cleared-free, free-form, free-none, form-kept, step-taken}
use Rattle.records_history.proofs.Holding.{held_in, held-value, held-is-found, judged-first, put-told, joins-unless-11}
use Rattle.std.specs.Prelude.{Err, Some, None, Result, Option, ⊤}
use Rattle.refusal.specs.declared.Refusal.{Refusal}

-- ---- offers, and more of them
module _ (k v : List ℕ) where
  pub offered-parts : (os ps : List Offer) → IsOffered k v (os ++ ps) → IsOffered k v os ⊎ IsOffered k v ps
  unfolding IsOffered
  offered-parts [] ps h = inr h
  offered-parts (o ∷ os) ps h = ⊎_elim (λ e. inl (inl e)) (λ r. ⊎_elim (λ a. inl (inr a)) (λ b. inr b) (offered-parts os ps r)) h

  pub offered-left : (os ps : List Offer) → IsOffered k v os → IsOffered k v (os ++ ps)
  unfolding IsOffered
  offered-left [] ps h = absurd h
  offered-left (o ∷ os) ps h = ⊎_elim (λ e. inl e) (λ r. inr (offered-left os ps r)) h

  pub offered-right : (os ps : List Offer) → IsOffered k v ps → IsOffered k v (os ++ ps)
  unfolding IsOffered
  offered-right [] ps h = h
  offered-right (o ∷ os) ps h = inr (offered-right os ps h)

-- two sets that are both a third one
pub through : {os ps qs : List Offer} → SameSet os ps → SameSet os qs → SameSet ps qs
through s t = record { there = λ k v h. t.there k v (s.back k v h); back = λ k v h. s.there k v (t.back k v h) }

pub never-more : (t : List ℕ) (os ps : List Offer) → Never11 t os → Never11 (after t os) ps → Never11 t (os ++ ps)
unfolding Never11 after
never-more t [] ps a b = b
never-more t (o ∷ os) ps a b = (a.0, never-more (offered t o) os ps a.1 b)

-- ---- a put keeps the higher-ranking of two
higher-new : (g : Option (List ℕ)) (v : List ℕ) → Over v (higher g v)
unfolding higher
higher-new None v = (v, refl, outranks-self v)
higher-new (Some u) v =
    ⊎_elim (λ q. (u, ap Some (cond_yes _ u v q), to-false (outranks v u) (λ h. outranks-asym u v q h))) (λ q. (v, ap Some (cond_no _ u v q), outranks-self v)) (either (outranks u v))

higher-over : (w : List ℕ) (g : Option (List ℕ)) (v : List ℕ) → Over w g → Over w (higher g v)
unfolding higher
higher-over w None v o = absurd (none o.1)
higher-over w (Some u) v o =
    let low : outranks w u ≡ false = subst (λ (x : List ℕ). outranks w x ≡ false) (sym (has o.1)) o.2 in
    ⊎_elim (λ q. (u, ap Some (cond_yes _ u v q), low)) (λ q. (v, ap Some (cond_no _ u v q), outranked-not w u v low q)) (either (outranks u v))

higher-one : (g : Option (List ℕ)) (v u : List ℕ) → higher g v ≡ Some u → (g ≡ Some u) ⊎ (v ≡ u)
unfolding higher
higher-one None v u e = inr (has e)
higher-one (Some x) v u e = ⊎_elim (λ q. inl (sym (ap Some (cond_yes _ x v q)) ∙ e)) (λ q. inr (has (sym (ap Some (cond_no _ x v q)) ∙ e))) (either (outranks x v))

-- ---- so of all offers what is held is the highest-ranking, whatever the rules
module _ (rules : List ℕ → Bool) (k : List ℕ) where
  abbrev counts : Offer → Bool
  counts o = same o.key k && (is_key k && rules o.value)

  abbrev Among : List Offer → List ℕ → Type 0
  Among os v = IsOffered k v os

  abbrev put : Option (List ℕ) → Offer → Option (List ℕ)
  put g o = cond (counts o) (higher g o.value) g

  -- it gives way only upwards
  held-over : (os : List Offer) (g : Option (List ℕ)) (w : List ℕ) → Over w g → Over w (held_from rules higher g os k)
  unfolding held_from
  held-over [] g w h = h
  held-over (o ∷ os) g w h = held-over os (put g o) w (cond_ind (Over w) (counts o) (higher g o.value) g (λ e. higher-over w g o.value h) (λ e. h))

  held-top : (os : List Offer) (g : Option (List ℕ)) (v : List ℕ) → Counts rules k (Among os) v → Over v (held_from rules higher g os k)
  unfolding held_from IsOffered
  held-top [] g v c = absurd c.offered
  held-top (o ∷ os) g v c =
      ⊎_elim (λ h. held-over os (put g o) v (here h.0 h.1)) (λ h. held-top os (put g o) v (record { offered = h; key = c.key; fits = c.fits })) c.offered
    where
      here : o.key ≡ k → o.value ≡ v → Over v (put g o)
      here p q =
          let yes : counts o ≡ true = and_i (same o.key k) _ (same-yes o.key k p) (and_i (is_key k) _ c.key (ap rules q ∙ c.fits)) in
          subst (Over v) (sym (cond_yes (counts o) (higher g o.value) g yes)) (subst (λ (x : List ℕ). Over v (higher g x)) (sym q) (higher-new g v))

  held_one : (os : List Offer) (g : Option (List ℕ)) (u : List ℕ) → held_from rules higher g os k ≡ Some u → (g ≡ Some u) ⊎ Counts rules k (Among os) u
  unfolding held_from IsOffered
  held_one [] g u e = inl e
  held_one (o ∷ os) g u e =
      ⊎_elim (λ h. here (either (counts o)) h) (λ c. inr (record { offered = inr c.offered; key = c.key; fits = c.fits })) (held_one os (put g o) u e)
    where
      this : counts o ≡ true → o.value ≡ u → Counts rules k (Among (o ∷ os)) u
      this q w =
          let r : (is_key k && rules o.value) ≡ true = and_r (same o.key k) _ q in
          record {
            offered = inl (same-eq o.key k (and_l (same o.key k) _ q), w);
            key = and_l (is_key k) _ r;
            fits = ap rules (sym w) ∙ and_r (is_key k) (rules o.value) r;
          }

      here : (counts o ≡ true) ⊎ (counts o ≡ false) → put g o ≡ Some u → (g ≡ Some u) ⊎ Counts rules k (Among (o ∷ os)) u
      here (inl q) h = ⊎_elim (λ w. inl w) (λ w. inr (this q w)) (higher-one g o.value u (sym (cond_yes (counts o) (higher g o.value) g q) ∙ h))
      here (inr q) h = inl (sym (cond_no (counts o) (higher g o.value) g q) ∙ h)

  pub held-highest : (os : List Offer) → Highest rules k (Among os) (held_from rules higher None os k)
  held-highest os =
      record { one = λ u e. ⊎_elim (λ h. absurd (none h)) (λ c. c) (held_one os None u e); top = λ v c. held-top os None v c }

-- ---- and there is one highest value of a set
module _ (rules : List ℕ → Bool) (k : List ℕ) where
  moved : (A B : List ℕ → Type 0) (v : List ℕ) → (A v → B v) → Counts rules k A v → Counts rules k B v
  moved A B v f c = record { offered = f c.offered; key = c.key; fits = c.fits }

  pub highest-moved : (A B : List ℕ → Type 0) → ((v : List ℕ) → A v → B v) → ((v : List ℕ) → B v → A v) → (g : Option (List ℕ)) → Highest rules k A g → Highest rules k B g
  highest-moved A B f e g h = record { one = λ u q. moved A B u (f u) (h.one u q); top = λ v c. h.top v (moved B A v (e v) c) }

  pub only : (A B : List ℕ → Type 0) → ((v : List ℕ) → A v → B v) → ((v : List ℕ) → B v → A v) → (g h : Option (List ℕ)) → Highest rules k A g → Highest rules k B h → g ≡ h
  only A B f e None None p q = refl
  only A B f e (Some u) None p q = absurd (none (q.top u (moved A B u (f u) (p.one u refl))).1)
  only A B f e None (Some v) p q = absurd (none (p.top v (moved B A v (e v) (q.one v refl))).1)
  only A B f e (Some u) (Some v) p q =
      let a = q.top u (moved A B u (f u) (p.one u refl)) in
      let b = p.top v (moved B A v (e v) (q.one v refl)) in
      ap Some
      (outranks-total u v (subst (λ (x : List ℕ). outranks u x ≡ false) (sym (has a.1)) a.2)
      (subst (λ (x : List ℕ). outranks v x ≡ false) (sym (has b.1)) b.2))

-- ---- what the store does with an offer that isn't answered 11
was-refused : (t k v : List ℕ) (x : Result ⊤ Refusal) → put_answer t k v ≡ x → taken x ≡ false → got (put_after t k v) k ≡ got t k
was-refused t k v x e h = ap (λ (s : List ℕ). got s k) (put_refused t k v (ap taken e ∙ h))

module _ (t : List ℕ) (form : in_form t ≡ true) where
  ranked : (k v : List ℕ) → (put_answer t k v ≡ Err NoRecordSlot → ⊥) → is_key k ≡ true → is_recipe v ≡ true
      → (g : Option (List ℕ)) → got t k ≡ g → got (put_after t k v) k ≡ higher g v
  unfolding higher accepts offered taken
  ranked k v room a b None e = step-taken k t (record { key = k; value = v }) refl (ap taken (joins-unless-11 t k v form a b e room))
  ranked k v room a b (Some u) e = (judged-first.ranked t k u v form e b).1

  own_key : (k v : List ℕ) → (put_answer t k v ≡ Err NoRecordSlot → ⊥) → (a b : Bool) → is_key k ≡ a → is_recipe v ≡ b
      → got (put_after t k v) k ≡ cond (a && b) (higher (got t k) v) (got t k)
  unfolding taken
  own_key k v room true true p q = ranked k v room p q (got t k) refl
  own_key k v room true false p q = was-refused t k v _ (judged-first.broken t k v form p q) refl
  own_key k v room false b p q = was-refused t k v _ (put-told.rules t k v form p) refl

  put_step : (o : Offer) → (put_answer t o.key o.value ≡ Err NoRecordSlot → ⊥) → (k : List ℕ) → got (offered t o) k ≡ put is_recipe k (got t k) o
  unfolding offered
  put_step o room k = ⊎_elim (λ q. at q) (λ q. other q) (either (same o.key k))
    where
      other : same o.key k ≡ false → got (put_after t o.key o.value) k ≡ put is_recipe k (got t k) o
      other q = put_other t o.key o.value k (differ o.key k q) ∙ sym (cond_no _ _ _ (and-off (same o.key k) (is_key k && is_recipe o.value) q))

      at : same o.key k ≡ true → got (put_after t o.key o.value) k ≡ put is_recipe k (got t k) o
      at q =
          let e : o.key ≡ k = same-eq o.key k q in
          ap (λ (x : List ℕ). got (put_after t x o.value) k) e
          ∙ own_key k o.value (λ r. room (ap (λ (x : List ℕ). put_answer t x o.value) e ∙ r)) (is_key k) (is_recipe o.value) refl refl
          ∙ ap (λ (b : Bool). cond (b && (is_key k && is_recipe o.value)) (higher (got t k) o.value) (got t k)) (sym q)

store-held : (os : List Offer) (t : List ℕ) → in_form t ≡ true → Never11 t os → (k : List ℕ) → got (after t os) k ≡ held_from is_recipe higher (got t k) os k
unfolding after Never11 held_from offered
store-held [] t form n k = refl
store-held (o ∷ os) t form n k =
    store-held os (put_after t o.key o.value) (put-form t o.key o.value form) n.1 k
    ∙ ap (λ (g : Option (List ℕ)). held_from is_recipe higher g os k) (put_step t form o n.0 k)

-- ---- from no records
module _ (t : List ℕ) (os : List Offer) (e : NoRecords t) (n : Never11 t os) where
  held : (k : List ℕ) → got (after t os) k ≡ held_from is_recipe higher None os k
  held k = store-held os t (free-form t e) n k ∙ ap (λ (g : Option (List ℕ)). held_from is_recipe higher g os k) (free-none t k e)

  highest : (k : List ℕ) → Highest is_recipe k (Among is_recipe k os) (got (after t os) k)
  highest k = subst (Highest is_recipe k (Among is_recipe k os)) (sym (held k)) (held-highest is_recipe k os)

-- every record in a slot is found, so it stands in a slot of a store that finds the same
within : (t u : List ℕ) → in_form t ≡ true → ((k : List ℕ) → got t k ≡ got u k) → Within t u
within t u form s i l h =
    let k : List ℕ = key_of (slot t i) in
    let v : List ℕ = value_of (slot t i) in
    let g : got u k ≡ Some v = sym (s k) ∙ held-is-found.held t k i form l (holds-in t k i h refl) in
    let o = holds-out u k (slot_with u k) (with-holds u k (held_in u k v g)) in
    (slot_with u k, held_in u k v g, o.0, o.1, held-value u k v g)

two : (t u : List ℕ) (os ps : List Offer) → NoRecords t → NoRecords u → SameSet os ps → Never11 t os → Never11 u ps → HoldSame (after t os) (after u ps)
two t u os ps e f s m n =
    record { found = same-found; there = within _ _ (form-kept t os (free-form t e)) same-found; back = within _ _ (form-kept u ps (free-form u f)) (λ k. sym (same-found k)) }
  where
    same-found : (k : List ℕ) → got (after t os) k ≡ got (after u ps) k
    same-found k = only is_recipe k _ _ (s.there k) (s.back k) _ _ (highest t os e m k) (highest u ps f n k)

pub any-rules : (rules : List ℕ → Bool) → Agrees (held_after rules higher)
any-rules rules os ps s k = only rules k _ _ (s.there k) (s.back k) _ _ (held-highest rules k os) (held-highest rules k ps)

pub agreement : Agreement
agreement = record { two = two; highest = highest; held = held; any-rules = any-rules; begin = cleared-free }
