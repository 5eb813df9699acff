-- What an answer of over comes with; once over, always over; and no call gives 0. Assumes nothing.
use Prim.Native.Nat.{ℕ, ◌≤◌}
use mathlib.Core.Path.{◌≡◌, refl, ap, ◌∙◌, subst}
use mathlib.Core.Bool.{Bool, true, false, not}
use mathlib.Core.List.{List, [], ◌∷◌}
use native.Mathlib.Omega.{arith}
use lib.Dec.{ltb, leb}
use lib.ListN.{length, length-take, length-map}
use borrow.Author.Tests.{not-true}
use Rattle.octets.specs.Search.{count}
use Rattle.octets.proofs.Bools.{cond_ind, cond_yes, cond_no, not-both, not_yes}
use Rattle.octets.proofs.Searching.{count-le}
use Rattle.refusal.specs.Refusal.{number_of}
use Rattle.refusal.specs.declared.Refusal.TheVariants.{OutOfForm}
use Rattle.message.specs.declared.Fields.{Fields}
use Rattle.lookup_marks.specs.Marks.{idle, failed, marked, twenty_of, is_over, idle_of, flights_of, sent_of, ranks_of}
use Rattle.lookup_marks.specs.declared.Ranks.{Ranks}
use Rattle.parts.specs.Parts.{is_view}
use Rattle.parts.proofs.Own.{read_view}
use Rattle.sha256.specs.Sha256.{sha256}
use Rattle.lookup.specs.Lookup.{room, candidates_of, mark_of, marks_of, in_form, mark, gives, refuses, ends, settled, next_of, bad_step, flyer_of, whom_of, reported, failure_of, heard_from, reply_of}
use Rattle.lookup.specs.Value.{Lookup, Step}
use Rattle.lookup.specs.declared.Answer.{Answer}
use Rattle.lookup.specs.declared.Answer.TheVariants.{Complete, CutShort, Wait, Ask, Going}
use Rattle.lookup.proofs.Form.{formed}
use Rattle.lookup_runs.specs.Runs.{accepted, Call, go_next, go_reply, go_fail, step, outcome}
use Rattle.lookup_runs.specs.Claims.{Viewed}
use Rattle.lookup_runs.proofs.Moves.{Move, stays, asks, fails, answers, moved, ends-accepted, settled-accepted}
use Rattle.lookup_runs.proofs.Sound.{Sound, sound-step}
use Rattle.std.specs.Prelude.{Ok, Err, Result}
use Rattle.refusal.specs.declared.Refusal.{Refusal}

-- ---- an answer of over: the test holds, the number is that of the candidates no longer idle, and those found are the first twenty not failed
pub record Ended (l : Lookup) (found : Ranks) (n : ℕ) : Type 0 where
  pub over : is_over (marks_of l) ≡ true
  pub sent : n ≡ sent_of (marks_of l)
  pub ranks : found ≡ ranks_of (twenty_of (marks_of l))

abbrev pub EndsWell : Lookup → Ranks → Result Answer Refusal → Type 0
EndsWell l f (Ok (Complete n)) = Ended l f n × (l.turned ≡ false)
EndsWell l f (Ok (CutShort n)) = Ended l f n × (l.turned ≡ true)
EndsWell l f (Err r) = Unit {0}
EndsWell l f (Ok (Ask i)) = Unit {0}
EndsWell l f (Ok Wait) = Unit {0}
EndsWell l f (Ok Going) = Unit {0}

abbrev pub Well : Step → Type 0
Well s = EndsWell s.lookup s.found s.answer

ends-well : (l : Lookup) → is_over (marks_of l) ≡ true → Well (ends l)
ends-well l o =
    cond_ind (EndsWell l (ends l).found) l.turned ((Ok (CutShort (sent_of (marks_of l))))) ((Ok (Complete (sent_of (marks_of l)))))
    (λ e. (record { over = o; sent = refl; ranks = refl }, e)) (λ e. (record { over = o; sent = refl; ranks = refl }, e))

pub settled-well : (l : Lookup) → Well (settled l)
unfolding settled
settled-well l = cond_ind Well (is_over (marks_of l)) (ends l) (gives l (Ok Going)) (λ e. ends-well l e) (λ e. tt)

next-well : (l : Lookup) → Well (next_of l)
unfolding next_of
next-well l =
    cond_ind Well (not (in_form l)) _ _ (λ e. tt)
    (λ f. cond_ind Well (is_over (marks_of l)) _ _ (λ e. ends-well l e)
    (λ o. cond_ind Well (leb l.limit (flights_of (marks_of l))) _ _ (λ e. tt)
    (λ g. cond_ind Well (ltb (idle_of (marks_of l)) l.count) _ _ (λ e. tt) (λ e. tt))))

reported-well : (l : Lookup) (w : Result ℕ Refusal) (after : ℕ → Lookup) → Well (reported l w after)
reported-well l (Err r) after = tt
reported-well l (Ok i) after = settled-well (after i)

reply-well : (own ours id body : List ℕ) (v : Fields) (l : Lookup) → Well (reply_of l own ours id body v)
unfolding reply_of
reply-well own ours id body v l =
    cond_ind Well (not (is_view body v)) (refuses l OutOfForm) (reported l (whom_of l own ours id) (heard_from ours body v.kind l)) (λ e. tt)
    (λ e. reported-well l (whom_of l own ours id) (heard_from ours body v.kind l))

fail-well : (own ours id : List ℕ) (l : Lookup) → Well (failure_of l own ours id)
unfolding failure_of
fail-well own ours id l = reported-well l (whom_of l own ours id) (λ i. mark i failed l)

step-well : (c : Call) (l : Lookup) → Well (step c l)
unfolding step
step-well go_next l = next-well l
step-well (go_reply own ours id body v) l = reply-well own ours id body v l
step-well (go_fail own ours id) l = fail-well own ours id l

pub outcome-well : (cs : List Call) (s : Step) → Well s → Well (outcome step s cs)
unfolding outcome
outcome-well [] s w = w
outcome-well (c ∷ cs) s w = outcome-well cs (step c s.lookup) (step-well c s.lookup)

-- no more than there is room for
pub sent-few : (l : Lookup) → Sound l → sent_of (marks_of l) ≤ room
unfolding sent_of
sent-few l s =
    omega (
      arith,
      count-le (λ r. not (marked idle (marks_of l) r)) (length (marks_of l)),
      length-map (candidates_of l) mark_of,
      length-take l.count l.candidates,
      (formed l s.form).fits,
    )

-- ---- once over, always over
stuck : (c : Call) (l : Lookup) → Sound l → is_over (marks_of l) ≡ true → (step c l).lookup ≡ l
stuck c l s o = go (moved c l s.long)
  where
    go : Move c l (step c l) → (step c l).lookup ≡ l
    go (stays e q n) = e
    go (asks i ec h g e q) = absurd (not-both (is_over (marks_of l)) o h.ongoing)
    go (fails id i f h p e q a) = absurd (not-both (is_over (marks_of l)) o h.ongoing)
    go (answers own ours id body v i ec k h p e q a) = absurd (not-both (is_over (marks_of l)) o h.ongoing)

pub stays-over : (cs : List Call) (s : Step) → Sound s.lookup → is_over (marks_of s.lookup) ≡ true → (outcome step s cs).lookup ≡ s.lookup
unfolding outcome
stays-over [] s h o = refl
stays-over (c ∷ cs) s h o =
    let e : (step c s.lookup).lookup ≡ s.lookup = stuck c s.lookup h o in
    stays-over cs (step c s.lookup) (sound-step c s.lookup h) (ap (λ (l : Lookup). is_over (marks_of l)) e ∙ o) ∙ e

pub repeats : (l : Lookup) → in_form l ≡ true → is_over (marks_of l) ≡ true → next_of l ≡ ends l
unfolding next_of
repeats l f o = cond_no (not (in_form l)) (refuses l OutOfForm) _ (not_yes (in_form l) f) ∙ cond_yes (is_over (marks_of l)) (ends l) _ o

-- ---- no call gives 0
abbrev Above : Result Answer Refusal → Type 0
Above (Err r) = 1 ≤ number_of r
Above (Ok (Complete n)) = Unit {0}
Above (Ok (CutShort n)) = Unit {0}
Above (Ok Wait) = Unit {0}
Above (Ok (Ask i)) = Unit {0}
Above (Ok Going) = Unit {0}

accepted-above : (a : Result Answer Refusal) → accepted a ≡ true → Above a
accepted-above (Err r) e = absurd (not-both false e refl)
accepted-above (Ok (Complete n)) e = tt
accepted-above (Ok (CutShort n)) e = tt
accepted-above (Ok Wait) e = tt
accepted-above (Ok (Ask i)) e = tt
accepted-above (Ok Going) e = tt

abbrev AboutAbove : Result ℕ Refusal → Type 0
AboutAbove (Err r) = 1 ≤ number_of r
AboutAbove (Ok i) = Unit {0}

-- a test of form that passes
passes : {X : Type 0} (b : Bool) → b ≡ true → not b ≡ true → X
passes b h e = absurd (not-both b h (not-true b e))

whom-above : (l : Lookup) (own ours id : List ℕ) → in_form l ≡ true → AboutAbove (whom_of l own ours id)
unfolding whom_of
whom-above l own ours id f =
    cond_ind AboutAbove (not (in_form l)) _ _ (passes (in_form l) f)
    (λ a. cond_ind AboutAbove (bad_step own ours id) _ _ (λ e. omega arith)
    (λ b. cond_ind AboutAbove (is_over (marks_of l)) _ _ (λ e. omega arith)
    (λ o. cond_ind AboutAbove (leb l.count (flyer_of (sha256 id) (candidates_of l))) _ _ (λ e. omega arith) (λ e. tt))))

reported-above : (l : Lookup) (w : Result ℕ Refusal) (after : ℕ → Lookup) → AboutAbove w → Above (reported l w after).answer
reported-above l (Err r) after h = h
reported-above l (Ok i) after h = accepted-above (settled (after i)).answer (settled-accepted (after i))

next-above : (l : Lookup) → in_form l ≡ true → Above (next_of l).answer
unfolding next_of
next-above l f =
    cond_ind P (not (in_form l)) _ _ (passes (in_form l) f)
    (λ a. cond_ind P (is_over (marks_of l)) _ _ (λ e. accepted-above (ends l).answer (ends-accepted l))
    (λ o. cond_ind P (leb l.limit (flights_of (marks_of l))) _ _ (λ e. tt)
    (λ g. cond_ind P (ltb (idle_of (marks_of l)) l.count) _ _ (λ e. tt) (λ e. tt))))
  where
    P : Step → Type 0
    P s = Above s.answer

step-above : (c : Call) (l : Lookup) → in_form l ≡ true → Viewed c → Above (step c l).answer
unfolding step reply_of failure_of
step-above go_next l f v = next-above l f
step-above (go_reply own ours id body v) l f h =
    cond_ind (λ (s : Step). Above s.answer) (not (is_view body v)) (refuses l OutOfForm) (reported l (whom_of l own ours id) (heard_from ours body v.kind l))
    (passes (is_view body v) (read_view body v h)) (λ e. reported-above l (whom_of l own ours id) (heard_from ours body v.kind l) (whom-above l own ours id f))
step-above (go_fail own ours id) l f h = reported-above l (whom_of l own ours id) (λ i. mark i failed l) (whom-above l own ours id f)

pub never-0 : (c : Call) (l : Lookup) → in_form l ≡ true → Viewed c → (step c l).answer ≡ Err OutOfForm → ⊥
never-0 c l f v e = let h : 1 ≤ 0 = subst Above e (step-above c l f v) in omega arith
