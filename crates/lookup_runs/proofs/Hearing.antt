-- Who was heard of is a candidate, or the lookup is marked; candidates stay, and were heard of; and where it is marked, someone heard of is no candidate.
-- Assumes nothing.
use Prim.Native.Nat.{ℕ}
use mathlib.Core.Path.{◌≡◌, refl, sym, ap, ◌∙◌, subst}
use mathlib.Core.Logic.{◌⊎◌, inl, inr, ⊎_elim}
use mathlib.Core.Bool.{Bool, true, false, not, ◌&&◌, ◌||◌}
use mathlib.Core.List.{List, [], ◌∷◌}
use lib.Dec.{ltb}
use borrow.Author.Tests.{not-false}
use Rattle.octets.specs.Octets.{same}
use Rattle.octets.proofs.Bools.{cond_ind, and_l, and_r, and_i, and-on, and-fails, or-e, or_l, or_r, not-both, not_yes, not-no}
use Rattle.octets.proofs.Strings.{same-eq, same_refl}
use Rattle.sha256.specs.Sha256.{sha256}
use Rattle.message.specs.declared.Fields.{Fields}
use Rattle.lookup_marks.specs.Marks.{flying, answered, failed}
use Rattle.octets.specs.Search.{any_in}
use Rattle.message.specs.Kinds.{find_node}
use Rattle.lookup.specs.Lookup.{room, candidates_of, turn_away, put, mark, id_fits, fresh, lies_at, known, enter, meet, hear, hear_all, heard_ids}
use Rattle.lookup.specs.Value.{Lookup, Step}
use Rattle.lookup_runs.specs.Runs.{accepted, Call, go_reply, step, outcome}
use Rattle.lookup_runs.specs.History.{history, tells, means_peer, named_in}
use Rattle.lookup_runs.proofs.Marking.{marked-candidates, put-candidates, any-unset, any-entered}
use Rattle.lookup_runs.proofs.Moves.{Move, stays, asks, fails, answers, moved}
use Rattle.lookup_runs.proofs.Sound.{Sound, sound-step}
use Rattle.lookup_runs.proofs.Tracking.{silent-tells, fails-unnamed, answers-named}

-- the peer at p is a candidate
abbrev Knows : List ℕ → Lookup → Bool
Knows p l = known p (candidates_of l)

-- it is, or someone was turned away
abbrev pub Kept : List ℕ → Lookup → Type 0
Kept p l = (known p (candidates_of l) ≡ true) ⊎ (l.turned ≡ true)

-- it isn't, and there is no room
abbrev pub Lost : List ℕ → Lookup → Type 0
Lost p l = (known p (candidates_of l) ≡ false) × (ltb l.count room ≡ false)

-- ---- one that comes in
module _ (p id : List ℕ) (l : Lookup) where
  joined-knows : Knows p (put l (enter l.target (fresh id) (candidates_of l))) ≡ (same (sha256 id) p || Knows p l)
  joined-knows =
      ap (known p) (put-candidates l (enter l.target (fresh id) (candidates_of l))) ∙ any-entered (lies_at p) l.target (fresh id) (candidates_of l)

-- a mark set
mark-knows : (p : List ℕ) (i m : ℕ) (l : Lookup) → Knows p (mark i m l) ≡ Knows p l
mark-knows p i m l = ap (known p) (marked-candidates i m l) ∙ any-unset (lies_at p) i m (candidates_of l) refl

-- ---- hearing of one
module _ (p ours id : List ℕ) (l : Lookup) where
  hear-stays : Knows p l ≡ true → Knows p (hear ours id l) ≡ true
  unfolding hear meet
  hear-stays k =
      cond_ind P (not (id_fits id)) l _ (λ e. k)
      (λ f. cond_ind P (same (sha256 id) ours) l _ (λ e. k)
      (λ o. cond_ind P (known (sha256 id) (candidates_of l)) l _ (λ e. k)
      (λ u. cond_ind P (ltb l.count room) (put l (enter l.target (fresh id) (candidates_of l))) (turn_away l)
      (λ e. joined-knows p id l ∙ or_r (same (sha256 id) p) (Knows p l) k) (λ e. k))))
    where
      P : Lookup → Type 0
      P x = Knows p x ≡ true

  hear-turned : l.turned ≡ true → (hear ours id l).turned ≡ true
  unfolding hear meet
  hear-turned k =
      cond_ind P (not (id_fits id)) l _ (λ e. k)
      (λ f. cond_ind P (same (sha256 id) ours) l _ (λ e. k)
      (λ o. cond_ind P (known (sha256 id) (candidates_of l)) l _ (λ e. k)
      (λ u. cond_ind P (ltb l.count room) (put l (enter l.target (fresh id) (candidates_of l))) (turn_away l) (λ e. k) (λ e. refl))))
    where
      P : Lookup → Type 0
      P x = x.turned ≡ true

  hear-kept : Kept p l → Kept p (hear ours id l)
  hear-kept k = ⊎_elim (λ a. inl (hear-stays a)) (λ a. inr (hear-turned a)) k

  -- who is a candidate then was one, or is meant
  hear-from : Knows p (hear ours id l) ≡ true → (Knows p l ≡ true) ⊎ (means_peer p ours id ≡ true)
  unfolding hear meet
  hear-from =
      cond_ind P (not (id_fits id)) l _ (λ e k. inl k)
      (λ f. cond_ind P (same (sha256 id) ours) l _ (λ e k. inl k)
      (λ o. cond_ind P (known (sha256 id) (candidates_of l)) l _ (λ e k. inl k)
      (λ u. cond_ind P (ltb l.count room) (put l (enter l.target (fresh id) (candidates_of l))) (turn_away l)
      (λ e k. ⊎_elim (λ a. inr (and_i (id_fits id) _ (not-false (id_fits id) f) (and_i (not (same (sha256 id) ours)) _ (not-no (same (sha256 id) ours) o) a))) (λ a. inl a)
      (or-e (same (sha256 id) p) (Knows p l) (sym (joined-knows p id l) ∙ k)))
      (λ e k. inl k))))
    where
      P : Lookup → Type 0
      P x = Knows p x ≡ true → (Knows p l ≡ true) ⊎ (means_peer p ours id ≡ true)

  -- who is meant is a candidate then, or the lookup is marked
  hear-new : means_peer p ours id ≡ true → Kept p (hear ours id l)
  unfolding hear meet
  hear-new m =
      cond_ind (Kept p) (not (id_fits id)) l _ (λ e. absurd (not-both (not (id_fits id)) e (not_yes (id_fits id) fits)))
      (λ f. cond_ind (Kept p) (same (sha256 id) ours) l _ (λ e. absurd (not-both (not (same (sha256 id) ours)) (and_l (not (same (sha256 id) ours)) _ rest) (not_yes (same (sha256 id) ours) e)))
      (λ o. cond_ind (Kept p) (known (sha256 id) (candidates_of l)) l _ (λ e. inl (subst (λ (x : List ℕ). known x (candidates_of l) ≡ true) (same-eq (sha256 id) p is) e))
      (λ u. cond_ind (Kept p) (ltb l.count room) (put l (enter l.target (fresh id) (candidates_of l))) (turn_away l)
      (λ e. inl (joined-knows p id l ∙ or_l (same (sha256 id) p) (Knows p l) is)) (λ e. inr refl))))
    where
      fits : id_fits id ≡ true
      fits = and_l (id_fits id) (not (same (sha256 id) ours) && same (sha256 id) p) m

      rest : (not (same (sha256 id) ours) && same (sha256 id) p) ≡ true
      rest = and_r (id_fits id) (not (same (sha256 id) ours) && same (sha256 id) p) m

      is : same (sha256 id) p ≡ true
      is = and_r (not (same (sha256 id) ours)) (same (sha256 id) p) rest

  -- with no room nobody comes in
  hear-lost : Lost p l → Lost p (hear ours id l)
  unfolding hear meet
  hear-lost k =
      cond_ind (Lost p) (not (id_fits id)) l _ (λ e. k)
      (λ f. cond_ind (Lost p) (same (sha256 id) ours) l _ (λ e. k)
      (λ o. cond_ind (Lost p) (known (sha256 id) (candidates_of l)) l _ (λ e. k)
      (λ u. cond_ind (Lost p) (ltb l.count room) (put l (enter l.target (fresh id) (candidates_of l))) (turn_away l)
      (λ e. absurd (not-both (ltb l.count room) e k.1)) (λ e. k))))

-- where it is marked then, it was so, or it's this one that is turned away
turned_by : (ours id : List ℕ) (l : Lookup) → (hear ours id l).turned ≡ true → (l.turned ≡ true) ⊎ ((means_peer (sha256 id) ours id ≡ true) × Lost (sha256 id) (hear ours id l))
unfolding hear meet
turned_by ours id l =
    cond_ind P (not (id_fits id)) l _ (λ e k. inl k)
    (λ f. cond_ind P (same (sha256 id) ours) l _ (λ e k. inl k)
    (λ o. cond_ind P (known (sha256 id) (candidates_of l)) l _ (λ e k. inl k)
    (λ u. cond_ind P (ltb l.count room) (put l (enter l.target (fresh id) (candidates_of l))) (turn_away l) (λ e k. inl k)
    (λ e k. inr (and_i (id_fits id) _ (not-false (id_fits id) f) (and_i (not (same (sha256 id) ours)) _ (not-no (same (sha256 id) ours) o) (same_refl (sha256 id))), (u, e))))))
  where
    P : Lookup → Type 0
    P x = x.turned ≡ true → (l.turned ≡ true) ⊎ ((means_peer (sha256 id) ours id ≡ true) × Lost (sha256 id) x)

-- ---- hearing of several
module _ (p ours : List ℕ) where
  all_stay : (ids : List (List ℕ)) (l : Lookup) → Knows p l ≡ true → Knows p (hear_all ours ids l) ≡ true
  unfolding hear_all
  all_stay [] l k = k
  all_stay (id ∷ ids) l k = all_stay ids (hear ours id l) (hear-stays p ours id l k)

  all-kept : (ids : List (List ℕ)) (l : Lookup) → Kept p l → Kept p (hear_all ours ids l)
  unfolding hear_all
  all-kept [] l k = k
  all-kept (id ∷ ids) l k = all-kept ids (hear ours id l) (hear-kept p ours id l k)

  all-lost : (ids : List (List ℕ)) (l : Lookup) → Lost p l → Lost p (hear_all ours ids l)
  unfolding hear_all
  all-lost [] l k = k
  all-lost (id ∷ ids) l k = all-lost ids (hear ours id l) (hear-lost p ours id l k)

  all_from : (ids : List (List ℕ)) (l : Lookup) → Knows p (hear_all ours ids l) ≡ true → (Knows p l ≡ true) ⊎ (any_in (means_peer p ours) ids ≡ true)
  unfolding hear_all any_in
  all_from [] l k = inl k
  all_from (id ∷ ids) l k =
      ⊎_elim (λ a. ⊎_elim (λ b. inl b) (λ b. inr (or_l (means_peer p ours id) (any_in (means_peer p ours) ids) b)) (hear-from p ours id l a))
      (λ a. inr (or_r (means_peer p ours id) (any_in (means_peer p ours) ids) a)) (all_from ids (hear ours id l) k)

  all_new : (ids : List (List ℕ)) (l : Lookup) → any_in (means_peer p ours) ids ≡ true → Kept p (hear_all ours ids l)
  unfolding hear_all any_in
  all_new [] l m = absurd (not-both false m refl)
  all_new (id ∷ ids) l m =
      ⊎_elim (λ a. all-kept ids (hear ours id l) (hear-new p ours id l a)) (λ a. all_new ids (hear ours id l) a) (or-e (means_peer p ours id) (any_in (means_peer p ours) ids) m)

all-turned : (ours : List ℕ) (ids : List (List ℕ)) (l : Lookup) → (hear_all ours ids l).turned ≡ true
    → (l.turned ≡ true) ⊎ ((p : List ℕ) × (any_in (means_peer p ours) ids ≡ true) × Lost p (hear_all ours ids l))
unfolding hear_all any_in
all-turned ours [] l k = inl k
all-turned ours (id ∷ ids) l k = ⊎_elim first later (all-turned ours ids (hear ours id l) k)
  where
    first : (hear ours id l).turned ≡ true → (l.turned ≡ true) ⊎ ((p : List ℕ) × (any_in (means_peer p ours) (id ∷ ids) ≡ true) × Lost p (hear_all ours ids (hear ours id l)))
    first a =
        ⊎_elim (λ b. inl b)
        (λ b. inr (sha256 id, or_l (means_peer (sha256 id) ours id) (any_in (means_peer (sha256 id) ours) ids) b.0, all-lost (sha256 id) ours ids (hear ours id l) b.1))
        (turned_by ours id l a)

    later : (p : List ℕ) × (any_in (means_peer p ours) ids ≡ true) × Lost p (hear_all ours ids (hear ours id l))
        → (l.turned ≡ true) ⊎ ((p : List ℕ) × (any_in (means_peer p ours) (id ∷ ids) ≡ true) × Lost p (hear_all ours ids (hear ours id l)))
    later b = inr (b.0, or_r (means_peer b.0 ours id) (any_in (means_peer b.0 ours) ids) b.1, b.2)

-- ---- any call
abbrev Named : List ℕ → Call → Lookup → Type 0
Named p c l = tells (named_in p) (record { call = c; gave = step c l }) ≡ true

module _ (p : List ℕ) (c : Call) (l : Lookup) (s : Sound l) where
  step_stays : Knows p l ≡ true → Knows p (step c l).lookup ≡ true
  step_stays k = go (moved c l s.long)
    where
      go : Move c l (step c l) → Knows p (step c l).lookup ≡ true
      go (stays e q n) = ap (Knows p) e ∙ k
      go (asks i ec h g e q) = ap (Knows p) e ∙ mark-knows p i flying l ∙ k
      go (fails id i f h pl e q a) = ap (Knows p) e ∙ mark-knows p i failed l ∙ k
      go (answers own ours id body v i ec kd h pl e q a) = ap (Knows p) e ∙ all_stay p ours (heard_ids body) (mark i answered l) (mark-knows p i answered l ∙ k)

  step_kept : Kept p l → Kept p (step c l).lookup
  step_kept k = go (moved c l s.long)
    where
      marked : (i m : ℕ) → Kept p (mark i m l)
      marked i m = ⊎_elim (λ a. inl (mark-knows p i m l ∙ a)) (λ a. inr a) k

      go : Move c l (step c l) → Kept p (step c l).lookup
      go (stays e q n) = subst (Kept p) (sym e) k
      go (asks i ec h g e q) = subst (Kept p) (sym e) (marked i flying)
      go (fails id i f h pl e q a) = subst (Kept p) (sym e) (marked i failed)
      go (answers own ours id body v i ec kd h pl e q a) = subst (Kept p) (sym e) (all-kept p ours (heard_ids body) (mark i answered l) (marked i answered))

  step-lost : Lost p l → Lost p (step c l).lookup
  step-lost k = go (moved c l s.long)
    where
      marked : (i m : ℕ) → Lost p (mark i m l)
      marked i m = (mark-knows p i m l ∙ k.0, k.1)

      go : Move c l (step c l) → Lost p (step c l).lookup
      go (stays e q n) = subst (Lost p) (sym e) k
      go (asks i ec h g e q) = subst (Lost p) (sym e) (marked i flying)
      go (fails id i f h pl e q a) = subst (Lost p) (sym e) (marked i failed)
      go (answers own ours id body v i ec kd h pl e q a) = subst (Lost p) (sym e) (all-lost p ours (heard_ids body) (mark i answered l) (marked i answered))

  -- whom an accepted reply names
  names : (own ours id body : List ℕ) (v : Fields) → c ≡ go_reply own ours id body v → v.kind ≡ find_node → accepted (step c l).answer ≡ true
      → tells (named_in p) (record { call = c; gave = step c l }) ≡ any_in (means_peer p ours) (heard_ids body)
  names own ours id body v ec k a = and-on (accepted (step c l).answer) (named_in p c) a ∙ ap (named_in p) ec ∙ answers-named p own ours id body v k

  step_from : Knows p (step c l).lookup ≡ true → (Knows p l ≡ true) ⊎ Named p c l
  step_from k = go (moved c l s.long)
    where
      go : Move c l (step c l) → (Knows p l ≡ true) ⊎ Named p c l
      go (stays e q n) = inl (sym (ap (Knows p) e) ∙ k)
      go (asks i ec h g e q) = inl (sym (ap (Knows p) e ∙ mark-knows p i flying l) ∙ k)
      go (fails id i f h pl e q a) = inl (sym (ap (Knows p) e ∙ mark-knows p i failed l) ∙ k)
      go (answers own ours id body v i ec kd h pl e q a) =
          ⊎_elim (λ b. inl (sym (mark-knows p i answered l) ∙ b)) (λ b. inr (names own ours id body v ec kd a ∙ b))
          (all_from p ours (heard_ids body) (mark i answered l) (sym (ap (Knows p) e) ∙ k))

  step-new : Named p c l → Kept p (step c l).lookup
  step-new t = go (moved c l s.long)
    where
      go : Move c l (step c l) → Kept p (step c l).lookup
      go (stays e q n) = absurd (not-both _ t (silent-tells (named_in p) refl c (step c l).answer n))
      go (asks i ec h g e q) = absurd (not-both _ t (and-fails (accepted (step c l).answer) (named_in p c) (ap (named_in p) ec)))
      go (fails id i f h pl e q a) = absurd (not-both _ t (and-fails (accepted (step c l).answer) (named_in p c) (fails-unnamed p id c f)))
      go (answers own ours id body v i ec kd h pl e q a) =
          subst (Kept p) (sym e) (all_new p ours (heard_ids body) (mark i answered l) (sym (names own ours id body v ec kd a) ∙ t))

step-turned : (c : Call) (l : Lookup) → Sound l → (step c l).lookup.turned ≡ true → (l.turned ≡ true) ⊎ ((p : List ℕ) × Named p c l × Lost p (step c l).lookup)
step-turned c l s k = go (moved c l s.long)
  where
    was : (x : Lookup) → (step c l).lookup ≡ x → x.turned ≡ true
    was x e = sym (ap (λ (y : Lookup). y.turned) e) ∙ k

    go : Move c l (step c l) → (l.turned ≡ true) ⊎ ((p : List ℕ) × Named p c l × Lost p (step c l).lookup)
    go (stays e q n) = inl (was l e)
    go (asks i ec h g e q) = inl (was (mark i flying l) e)
    go (fails id i f h pl e q a) = inl (was (mark i failed l) e)
    go (answers own ours id body v i ec kd h pl e q a) =
        ⊎_elim (λ b. inl b)
        (λ b. inr (b.0, names b.0 c l s own ours id body v ec kd a ∙ b.1, subst (Lost b.0) (sym e) b.2))
        (all-turned ours (heard_ids body) (mark i answered l) (was (hear_all ours (heard_ids body) (mark i answered l)) e))

-- ---- any calls
module _ (p : List ℕ) where
  pub calls-stay : (cs : List Call) (s : Step) → Sound s.lookup → Knows p s.lookup ≡ true → Knows p (outcome step s cs).lookup ≡ true
  unfolding outcome
  calls-stay [] s h k = k
  calls-stay (c ∷ cs) s h k = calls-stay cs (step c s.lookup) (sound-step c s.lookup h) (step_stays p c s.lookup h k)

  calls-keep : (cs : List Call) (s : Step) → Sound s.lookup → Kept p s.lookup → Kept p (outcome step s cs).lookup
  unfolding outcome
  calls-keep [] s h k = k
  calls-keep (c ∷ cs) s h k = calls-keep cs (step c s.lookup) (sound-step c s.lookup h) (step_kept p c s.lookup h k)

  calls-lose : (cs : List Call) (s : Step) → Sound s.lookup → Lost p s.lookup → Lost p (outcome step s cs).lookup
  unfolding outcome
  calls-lose [] s h k = k
  calls-lose (c ∷ cs) s h k = calls-lose cs (step c s.lookup) (sound-step c s.lookup h) (step-lost p c s.lookup h k)

  -- who is named is a candidate, or the lookup is marked
  pub named-kept : (cs : List Call) (s : Step) → Sound s.lookup → any_in (tells (named_in p)) (history step s cs) ≡ true → Kept p (outcome step s cs).lookup
  unfolding outcome history any_in
  named-kept [] s h n = absurd (not-both false n refl)
  named-kept (c ∷ cs) s h n =
      ⊎_elim
      (λ a. calls-keep cs (step c s.lookup) (sound-step c s.lookup h) (step-new p c s.lookup h a))
      (λ a. named-kept cs (step c s.lookup) (sound-step c s.lookup h) a)
      (or-e (tells (named_in p) (record { call = c; gave = step c s.lookup })) (any_in (tells (named_in p)) (history step (step c s.lookup) cs)) n)

  -- a candidate was one before, or was named
  pub known-named : (cs : List Call) (s : Step) → Sound s.lookup → Knows p (outcome step s cs).lookup ≡ true
      → (Knows p s.lookup ≡ true) ⊎ (any_in (tells (named_in p)) (history step s cs) ≡ true)
  unfolding outcome history any_in
  known-named [] s h k = inl k
  known-named (c ∷ cs) s h k =
      ⊎_elim
      (λ a. ⊎_elim (λ b. inl b) (λ b. inr (or_l (tells (named_in p) (record { call = c; gave = step c s.lookup })) (any_in (tells (named_in p)) (history step (step c s.lookup) cs)) b))
      (step_from p c s.lookup h a))
      (λ a. inr (or_r (tells (named_in p) (record { call = c; gave = step c s.lookup })) (any_in (tells (named_in p)) (history step (step c s.lookup) cs)) a))
      (known-named cs (step c s.lookup) (sound-step c s.lookup h) k)

-- where the lookup is marked, someone named is no candidate
pub turned-lost : (cs : List Call) (s : Step) → Sound s.lookup → (outcome step s cs).lookup.turned ≡ true
    → (s.lookup.turned ≡ true) ⊎ ((p : List ℕ) × (any_in (tells (named_in p)) (history step s cs) ≡ true) × Lost p (outcome step s cs).lookup)
unfolding outcome history any_in
turned-lost [] s h k = inl k
turned-lost (c ∷ cs) s h k = ⊎_elim first later (turned-lost cs (step c s.lookup) (sound-step c s.lookup h) k)
  where
    first : (step c s.lookup).lookup.turned ≡ true
        → (s.lookup.turned ≡ true) ⊎ ((p : List ℕ) × (any_in (tells (named_in p)) (history step s (c ∷ cs)) ≡ true) × Lost p (outcome step (step c s.lookup) cs).lookup)
    first a =
        ⊎_elim (λ b. inl b)
        (λ b. inr (
          b.0,
          or_l (tells (named_in b.0) (record { call = c; gave = step c s.lookup })) (any_in (tells (named_in b.0)) (history step (step c s.lookup) cs)) b.1,
          calls-lose b.0 cs (step c s.lookup) (sound-step c s.lookup h) b.2,
        ))
        (step-turned c s.lookup h a)

    later : (p : List ℕ) × (any_in (tells (named_in p)) (history step (step c s.lookup) cs) ≡ true) × Lost p (outcome step (step c s.lookup) cs).lookup
        → (s.lookup.turned ≡ true) ⊎ ((p : List ℕ) × (any_in (tells (named_in p)) (history step s (c ∷ cs)) ≡ true) × Lost p (outcome step (step c s.lookup) cs).lookup)
    later b = inr (
      b.0,
      or_r (tells (named_in b.0) (record { call = c; gave = step c s.lookup })) (any_in (tells (named_in b.0)) (history step (step c s.lookup) cs)) b.1,
      b.2,
    )
