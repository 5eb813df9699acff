-- The theorems of specs/Refusals.antt. Assumes nothing.
use Prim.Native.Nat.{ℕ}
use mathlib.Core.Path.{◌≡◌, refl, ap, ◌∙◌}
use mathlib.Core.Logic.{◌⊎◌, inl, inr, ⊎_elim}
use mathlib.Core.Bool.{true, not}
use mathlib.Core.List.{List, [], ◌∷◌}
use lib.Dec.{leb, ltb}
use Rattle.octets.specs.Search.{all_of}
use Rattle.octets.proofs.Bools.{cond_ind, cond_yes, not-both}
use Rattle.refusal.specs.declared.Refusal.{Refusal}
use Rattle.refusal.specs.declared.Refusal.TheVariants.{OutOfForm, BreaksRules, BadPeer, BadConcurrency}
use Rattle.contacts.specs.Form.{in_form as in_form_table}
use Rattle.message.specs.declared.Fields.{Fields}
use Rattle.lookup_marks.specs.Marks.{failed, is_over, idle_of, flights_of}
use Rattle.parts.specs.Parts.{is_view}
use Rattle.message.specs.Kinds.{key_fits}
use Rattle.lookup.specs.Lookup.{marks_of, in_form, mark, refuses, settled, next_of, id_fits, whom_of, reported, failure_of, heard_from, reply_of, no_lookup, begun, limit_fits, start_of}
use Rattle.lookup.specs.Value.{Lookup, Step}
use Rattle.lookup_runs.specs.Runs.{accepted, Call, go_next, go_reply, go_fail, step, outcome}
use Rattle.lookup_runs.specs.Refusals.{Refusals}
use Rattle.lookup_runs.proofs.Moves.{settled-accepted}
use Rattle.std.specs.Prelude.{Ok, Err, Result}

-- a step hands l back, or is no refusal
abbrev Leaves : Lookup → Step → Type 0
Leaves l s = (s.lookup ≡ l) ⊎ (accepted s.answer ≡ true)

left : (l : Lookup) (s : Step) (r : Refusal) → Leaves l s → s.answer ≡ Err r → s.lookup ≡ l
left l s r h e = ⊎_elim (λ k. k) (λ a. absurd (not-both (accepted s.answer) a (ap accepted e))) h

-- ---- any call
next-leaves : (l : Lookup) → Leaves l (next_of l)
unfolding next_of
next-leaves l =
    cond_ind (Leaves l) (not (in_form l)) _ _ (λ e. inl refl)
    (λ f. cond_ind (Leaves l) (is_over (marks_of l)) _ _ (λ e. inl refl)
    (λ o. cond_ind (Leaves l) (leb l.limit (flights_of (marks_of l))) _ _ (λ e. inl refl)
    (λ g. cond_ind (Leaves l) (ltb (idle_of (marks_of l)) l.count) _ _ (λ e. inr refl) (λ e. inl refl))))

reported-leaves : (l : Lookup) (w : Result ℕ Refusal) (after : ℕ → Lookup) → Leaves l (reported l w after)
reported-leaves l (Err r) after = inl refl
reported-leaves l (Ok i) after = inr (settled-accepted (after i))

reply-leaves : (own ours id body : List ℕ) (v : Fields) (l : Lookup) → Leaves l (reply_of l own ours id body v)
unfolding reply_of
reply-leaves own ours id body v l =
    cond_ind (Leaves l) (not (is_view body v)) (refuses l OutOfForm) (reported l (whom_of l own ours id) (heard_from ours body v.kind l))
    (λ e. inl refl) (λ e. reported-leaves l (whom_of l own ours id) (heard_from ours body v.kind l))

fail-leaves : (own ours id : List ℕ) (l : Lookup) → Leaves l (failure_of l own ours id)
unfolding failure_of
fail-leaves own ours id l = reported-leaves l (whom_of l own ours id) (λ i. mark i failed l)

step-leaves : (c : Call) (l : Lookup) → Leaves l (step c l)
unfolding step
step-leaves go_next l = next-leaves l
step-leaves (go_reply own ours id body v) l = reply-leaves own ours id body v l
step-leaves (go_fail own ours id) l = fail-leaves own ours id l

-- ---- a start
start-leaves : (t own ours key : List ℕ) (limit : ℕ) → Leaves no_lookup (start_of t own ours key limit)
unfolding start_of
start-leaves t own ours key limit =
    cond_ind (Leaves no_lookup) (not (in_form_table t ours)) (refuses no_lookup OutOfForm) _ (λ e. inl refl)
    (λ a. cond_ind (Leaves no_lookup) (not (key_fits key)) (refuses no_lookup BreaksRules) _ (λ e. inl refl)
    (λ b. cond_ind (Leaves no_lookup) (not (id_fits own)) (refuses no_lookup BadPeer) _ (λ e. inl refl)
    (λ c. cond_ind (Leaves no_lookup) (not (limit_fits limit)) (refuses no_lookup BadConcurrency) (settled (begun t key limit)) (λ e. inl refl) (λ e. inr (settled-accepted (begun t key limit))))))

-- ---- a lookup out of form gives 0 and stays
none-formless : not (in_form no_lookup) ≡ true
unfolding in_form all_of
none-formless = refl

whom-none : (own ours id : List ℕ) → whom_of no_lookup own ours id ≡ Err OutOfForm
unfolding whom_of
whom-none own ours id = cond_yes (not (in_form no_lookup)) (Err OutOfForm) _ none-formless

step-none : (c : Call) → step c no_lookup ≡ refuses no_lookup OutOfForm
unfolding step next_of reply_of failure_of
step-none go_next = cond_yes (not (in_form no_lookup)) (refuses no_lookup OutOfForm) _ none-formless
step-none (go_reply own ours id body v) =
    cond_ind (λ (s : Step). s ≡ refuses no_lookup OutOfForm) (not (is_view body v)) (refuses no_lookup OutOfForm) (reported no_lookup (whom_of no_lookup own ours id) (heard_from ours body v.kind no_lookup))
    (λ e. refl) (λ e. ap (λ (w : Result ℕ Refusal). reported no_lookup w (heard_from ours body v.kind no_lookup)) (whom-none own ours id))
step-none (go_fail own ours id) = ap (λ (w : Result ℕ Refusal). reported no_lookup w (λ i. mark i failed no_lookup)) (whom-none own ours id)

stays-none : (cs : List Call) (s : Step) → s.lookup ≡ no_lookup → (outcome step s cs).lookup ≡ no_lookup
unfolding outcome
stays-none [] s e = e
stays-none (c ∷ cs) s e = stays-none cs (step c s.lookup) (ap (λ (l : Lookup). (step c l).lookup) e ∙ ap (λ (x : Step). x.lookup) (step-none c))

start_none : (t own ours key : List ℕ) (limit : ℕ) (r : Refusal) → (start_of t own ours key limit).answer ≡ Err r → (start_of t own ours key limit).lookup ≡ no_lookup
start_none t own ours key limit r e = left no_lookup (start_of t own ours key limit) r (start-leaves t own ours key limit) e

pub refusals : Refusals
refusals =
    record {
      untouched = λ c l r e. left l (step c l) r (step-leaves c l) e;
      empty = λ t own ours key limit r e. start_none t own ours key limit r e;
      later = λ t own ours key limit r e cs c. ap (step c) (stays-none cs (start_of t own ours key limit) (start_none t own ours key limit r e)) ∙ step-none c;
    }
