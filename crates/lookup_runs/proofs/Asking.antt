-- Nobody is asked twice, and the limit is kept. Assumes nothing.
use Prim.Native.Nat.{ℕ, ◌+◌, ◌≤◌, ◌<◌}
use mathlib.Core.Path.{◌≡◌, refl, sym, ap, ◌∙◌, subst}
use mathlib.Core.Bool.{Bool, true, false, cond, not}
use mathlib.Core.List.{List, [], ◌∷◌, map}
use native.Mathlib.Omega.{arith}
use lib.Dec.{eqb, ltb}
use lib.ListN.{length, get_or}
use borrow.Author.Tests.{eq-eqb, ne_eqb}
use Rattle.octets.specs.Octets.{same}
use Rattle.octets.proofs.Bools.{cond_ind, cond_yes, cond_no}
use Rattle.sha256.specs.Sha256.{sha256}
use Rattle.contacts.specs.Near.{nearest_slots}
use Rattle.lookup_marks.specs.Marks.{idle, flying, answered, failed, sent_of}
use Rattle.lookup.specs.Lookup.{room, candidates_of, marks_of, turn_away, put, with_mark, mark, id_fits, fresh, known, enter, meet, hear, hear_all, heard_ids, nobody, begun, contact_at, first_ones}
use Rattle.lookup_candidates.specs.declared.Candidate.{Candidate}
use Rattle.lookup.specs.Value.{Lookup, Step}
use Rattle.lookup.specs.declared.Answer.{Answer}
use Rattle.lookup.specs.declared.Answer.TheVariants.{Complete, CutShort, Wait, Ask, Going}
use Rattle.lookup.proofs.Form.{formed}
use Rattle.lookup_runs.specs.Runs.{Call, step, outcome}
use Rattle.lookup_runs.specs.History.{Event, history, asks_for, is_ask, how_many, times_asked, requests}
use Rattle.lookup_runs.proofs.Sums.{sum_of, sum-nil, sum-cons, sum-mark, sum-enter, sum-le, sum_same, one, flying_one, asked_one, flights-sum, sent-sum}
use Rattle.lookup_runs.proofs.Marking.{marked-candidates, put-candidates, at_mark}
use Rattle.lookup_runs.proofs.Order.{apart}
use Rattle.lookup_runs.proofs.Moves.{Quiet, Has, Move, stays, asks, fails, answers, moved}
use Rattle.lookup_runs.proofs.Sound.{Sound, sound-step, sound-outcome, begun-candidates}
use Rattle.std.specs.Prelude.{Ok, Err, Result}
use Rattle.refusal.specs.declared.Refusal.{Refusal}

-- ---- a weight that a newcomer has not
module _ (w : Candidate → ℕ) (none : (id : List ℕ) → w (fresh id) ≡ 0) where
  weight : Lookup → ℕ
  weight l = sum_of w (candidates_of l)

  hear-weighs : (ours id : List ℕ) (l : Lookup) → sum_of w (candidates_of (hear ours id l)) ≡ sum_of w (candidates_of l)
  unfolding hear meet
  hear-weighs ours id l =
      cond_ind P (not (id_fits id)) l _ (λ e. refl)
      (λ f. cond_ind P (same (sha256 id) ours) l _ (λ e. refl)
      (λ o. cond_ind P (known (sha256 id) (candidates_of l)) l _ (λ e. refl)
      (λ k. cond_ind P (ltb l.count room) (put l (enter l.target (fresh id) (candidates_of l))) (turn_away l)
      (λ e. ap (sum_of w) (put-candidates l (enter l.target (fresh id) (candidates_of l))) ∙ sum-enter w l.target (fresh id) (candidates_of l) ∙ omega (arith, none id))
      (λ e. refl))))
    where
      P : Lookup → Type 0
      P k = sum_of w (candidates_of k) ≡ sum_of w (candidates_of l)

  pub all-weigh : (ours : List ℕ) (ids : List (List ℕ)) (l : Lookup) → sum_of w (candidates_of (hear_all ours ids l)) ≡ sum_of w (candidates_of l)
  unfolding hear_all
  all-weigh ours [] l = refl
  all-weigh ours (id ∷ ids) l = all-weigh ours ids (hear ours id l) ∙ hear-weighs ours id l

  pub mark-weighs : (i m : ℕ) (l : Lookup) → i < length (candidates_of l)
      → sum_of w (candidates_of (mark i m l)) + w (get_or (candidates_of l) i nobody) ≡ sum_of w (candidates_of l) + w (with_mark m (get_or (candidates_of l) i nobody))
  mark-weighs i m l h = ap (λ (cs : List Candidate). sum_of w cs + w (get_or (candidates_of l) i nobody)) (marked-candidates i m l) ∙ sum-mark w i m (candidates_of l) nobody h

-- ---- asked: no longer idle, weighed by its place
module _ (v : List ℕ → ℕ) where
  unfoldable spent : Candidate → ℕ
  spent c = cond (eqb c.mark idle) 0 (v c.place)

  spent-idle : (c : Candidate) → c.mark ≡ idle → spent c ≡ 0
  unfolding spent
  spent-idle c h = cond_yes (eqb c.mark idle) 0 (v c.place) (eq-eqb c.mark idle h)

  spent-not : (c : Candidate) → (c.mark ≡ idle → ⊥) → spent c ≡ v c.place
  unfolding spent
  spent-not c h = cond_no (eqb c.mark idle) 0 (v c.place) (ne_eqb c.mark idle h)

  spent-le : (c : Candidate) → spent c ≤ v c.place
  unfolding spent
  spent-le c = cond_ind (λ (n : ℕ). n ≤ v c.place) (eqb c.mark idle) 0 (v c.place) (λ e. omega arith) (λ e. omega arith)

  -- what an answer weighs, where cs are the candidates of the lookup handed back
  abbrev weighed : List Candidate → Result Answer Refusal → ℕ
  weighed cs (Ok (Ask i)) = v (get_or cs i nobody).place
  weighed cs (Err r) = 0
  weighed cs (Ok (Complete n)) = 0
  weighed cs (Ok (CutShort n)) = 0
  weighed cs (Ok Wait) = 0
  weighed cs (Ok Going) = 0

  quiet_none : (cs : List Candidate) (a : Result Answer Refusal) → Quiet a → weighed cs a ≡ 0
  quiet_none cs (Ok (Ask i)) q = absurd q
  quiet_none cs (Err r) q = refl
  quiet_none cs (Ok (Complete n)) q = refl
  quiet_none cs (Ok (CutShort n)) q = refl
  quiet_none cs (Ok Wait) q = refl
  quiet_none cs (Ok Going) q = refl

  step-spends : (c : Call) (l : Lookup) → Sound l
      → sum_of spent (candidates_of (step c l).lookup) ≡ weighed (candidates_of (step c l).lookup) (step c l).answer + sum_of spent (candidates_of l)
  step-spends c l s = go (moved c l s.long)
    where
      S : Lookup → ℕ
      S k = sum_of spent (candidates_of k)

      at : ℕ → Candidate
      at i = get_or (candidates_of l) i nobody

      fresh-none : (id : List ℕ) → spent (fresh id) ≡ 0
      fresh-none id = spent-idle (fresh id) refl

      flown : (i m : ℕ) → (m ≡ idle → ⊥) → Has l i flying → S (mark i m l) ≡ S l
      flown i m z h =
          let a : spent (get_or (candidates_of l) i nobody) ≡ v (at i).place = spent-not (get_or (candidates_of l) i nobody) (λ e. bad (sym h.is ∙ e)) in
          let b : spent (with_mark m (get_or (candidates_of l) i nobody)) ≡ v (at i).place = spent-not (with_mark m (get_or (candidates_of l) i nobody)) z in
          omega (arith, mark-weighs spent fresh-none i m l h.within)
        where
          bad : flying ≡ idle → ⊥
          bad e = omega arith

      quiet : Quiet (step c l).answer → weighed (candidates_of (step c l).lookup) (step c l).answer ≡ 0
      quiet q = quiet_none (candidates_of (step c l).lookup) (step c l).answer q

      go : Move c l (step c l) → S (step c l).lookup ≡ weighed (candidates_of (step c l).lookup) (step c l).answer + S l
      go (stays e q n) = ap S e ∙ omega (arith, quiet q)
      go (asks i ec h g e q) =
          let a : spent (get_or (candidates_of l) i nobody) ≡ 0 = spent-idle (get_or (candidates_of l) i nobody) h.is in
          let b : spent (with_mark flying (get_or (candidates_of l) i nobody)) ≡ v (at i).place = spent-not (with_mark flying (get_or (candidates_of l) i nobody)) (λ z. no z) in
          let p : (get_or (candidates_of (mark i flying l)) i nobody).place ≡ (at i).place =
          ap (λ (cs : List Candidate). (get_or cs i nobody).place) (marked-candidates i flying l) ∙ ap (λ (d : Candidate). d.place) (at_mark i flying (candidates_of l) h.within) in
          let r : weighed (candidates_of (step c l).lookup) (step c l).answer ≡ v (at i).place =
          ap (weighed (candidates_of (step c l).lookup)) q ∙ ap (λ (k : Lookup). v (get_or (candidates_of k) i nobody).place) e ∙ ap v p in
          ap S e ∙ omega (arith, mark-weighs spent fresh-none i flying l h.within, a, b, r)
        where
          no : flying ≡ idle → ⊥
          no z = omega arith
      go (fails id i f h p e q a) = ap S e ∙ flown i failed (λ z. no z) h ∙ omega (arith, quiet q)
        where
          no : failed ≡ idle → ⊥
          no z = omega arith
      go (answers own ours id body fs i ec k h p e q a) =
          ap S e ∙ all-weigh spent fresh-none ours (heard_ids body) (mark i answered l) ∙ flown i answered (λ z. no z) h ∙ omega (arith, quiet q)
        where
          no : answered ≡ idle → ⊥
          no z = omega arith

  -- the same of a test of events that weighs 1 where it passes
  module _ (test : Event → Bool) (is : (c : Call) (s : Step) → cond (test (record { call = c; gave = s })) 1 0 ≡ weighed (candidates_of s.lookup) s.answer) where
    counted : (cs : List Call) (s : Step) → Sound s.lookup
        → sum_of spent (candidates_of (outcome step s cs).lookup) ≡ how_many test (history step s cs) + sum_of spent (candidates_of s.lookup)
    unfolding outcome history how_many
    counted [] s h = omega arith
    counted (c ∷ cs) s h =
        omega (
          arith,
          counted cs (step c s.lookup) (sound-step c s.lookup h),
          step-spends c s.lookup h,
          is c (step c s.lookup),
        )

-- ---- once: the place p weighs 1
module _ (p : List ℕ) where
  abbrev here : List ℕ → ℕ
  here x = cond (same x p) 1 0

  asks-one : (cs : List Candidate) (a : Result Answer Refusal) → cond (asks_for p cs a) 1 0 ≡ weighed here cs a
  asks-one cs (Ok (Ask i)) = refl
  asks-one cs (Err r) = refl
  asks-one cs (Ok (Complete n)) = refl
  asks-one cs (Ok (CutShort n)) = refl
  asks-one cs (Ok Wait) = refl
  asks-one cs (Ok Going) = refl

  -- along any calls the peer at p is asked at most once
  pub asked-once : (cs : List Call) (s : Step) → Sound s.lookup → times_asked p (history step s cs) ≤ 1
  asked-once cs s h =
      let k : Sound (outcome step s cs).lookup = sound-outcome cs s h in
      omega (
        arith,
        counted here (λ (e : Event). asks_for p (candidates_of e.gave.lookup) e.gave.answer) (λ c s. asks-one (candidates_of s.lookup) s.answer) cs s h,
        sum-le (spent here) (one p) (spent-le here) (candidates_of (outcome step s cs).lookup),
        apart (outcome step s cs).lookup.target p (candidates_of (outcome step s cs).lookup) (formed (outcome step s cs).lookup k.form).order,
      )

-- ---- how many are asked: each place weighs 1
abbrev each : List ℕ → ℕ
each x = 1

asks-each : (cs : List Candidate) (a : Result Answer Refusal) → cond (is_ask a) 1 0 ≡ weighed each cs a
asks-each cs (Ok (Ask i)) = refl
asks-each cs (Err r) = refl
asks-each cs (Ok (Complete n)) = refl
asks-each cs (Ok (CutShort n)) = refl
asks-each cs (Ok Wait) = refl
asks-each cs (Ok Going) = refl

spent-each : (c : Candidate) → asked_one c ≡ spent each c
unfolding spent
spent-each c = go (eqb c.mark idle)
  where
    go : (b : Bool) → ◌≡◌ {A = ℕ} (cond (not b) 1 0) (cond b 0 1)
    go true = refl
    go false = refl

-- the requests of the history are the candidates no longer idle
pub sent-requests : (cs : List Call) (s : Step) → Sound s.lookup → sum_of asked_one (candidates_of s.lookup) ≡ 0
    → sent_of (marks_of (outcome step s cs).lookup) ≡ requests (history step s cs)
sent-requests cs s h z =
    omega (
      arith,
      sent-sum (candidates_of (outcome step s cs).lookup),
      sum_same asked_one (spent each) spent-each (candidates_of (outcome step s cs).lookup),
      sum_same asked_one (spent each) spent-each (candidates_of s.lookup),
      counted each (λ (e : Event). is_ask e.gave.answer) (λ c s. asks-each (candidates_of s.lookup) s.answer) cs s h,
    )

-- ---- in flight
flying-yes : (c : Candidate) → c.mark ≡ flying → flying_one c ≡ 1
flying-yes c e = cond_yes (eqb c.mark flying) 1 0 (eq-eqb c.mark flying e)

flying-no : (c : Candidate) → (c.mark ≡ flying → ⊥) → flying_one c ≡ 0
flying-no c e = cond_no (eqb c.mark flying) 1 0 (ne_eqb c.mark flying e)

hear-limit : (ours id : List ℕ) (l : Lookup) → (hear ours id l).limit ≡ l.limit
unfolding hear meet
hear-limit ours id l =
    cond_ind P (not (id_fits id)) l _ (λ e. refl)
    (λ f. cond_ind P (same (sha256 id) ours) l _ (λ e. refl)
    (λ o. cond_ind P (known (sha256 id) (candidates_of l)) l _ (λ e. refl)
    (λ k. cond_ind P (ltb l.count room) (put l (enter l.target (fresh id) (candidates_of l))) (turn_away l) (λ e. refl) (λ e. refl))))
  where
    P : Lookup → Type 0
    P k = k.limit ≡ l.limit

all-limit : (ours : List ℕ) (ids : List (List ℕ)) (l : Lookup) → (hear_all ours ids l).limit ≡ l.limit
unfolding hear_all
all-limit ours [] l = refl
all-limit ours (id ∷ ids) l = all-limit ours ids (hear ours id l) ∙ hear-limit ours id l

pub record Limited (n : ℕ) (l : Lookup) : Type 0 where
  pub same : l.limit ≡ n
  pub few : sum_of flying_one (candidates_of l) ≤ n

step-limited : (n : ℕ) (c : Call) (l : Lookup) → Sound l → Limited n l → Limited n (step c l).lookup
step-limited n c l s d = go (moved c l s.long)
  where
    F : Lookup → ℕ
    F k = sum_of flying_one (candidates_of k)

    fresh-none : (id : List ℕ) → flying_one (fresh id) ≡ 0
    fresh-none id = refl

    landed : (i m : ℕ) → (m ≡ flying → ⊥) → Has l i flying → F (mark i m l) ≤ F l
    landed i m z h =
        let a : flying_one (with_mark m (get_or (candidates_of l) i nobody)) ≡ 0 = flying-no (with_mark m (get_or (candidates_of l) i nobody)) z in
        omega (arith, mark-weighs flying_one fresh-none i m l h.within, a)

    go : Move c l (step c l) → Limited n (step c l).lookup
    go (stays e q t) = subst (Limited n) (sym e) d
    go (asks i ec h g e q) =
        let a : flying_one (with_mark flying (get_or (candidates_of l) i nobody)) ≡ 1 = flying-yes (with_mark flying (get_or (candidates_of l) i nobody)) refl in
        let f : F l < l.limit = subst (λ (k : ℕ). k < l.limit) (flights-sum (candidates_of l)) g in
        subst (Limited n) (sym e) (record { same = d.same; few = omega (arith, mark-weighs flying_one fresh-none i flying l h.within, a, f, d.same) })
    go (fails id i f h p e q a) = subst (Limited n) (sym e) (record { same = d.same; few = omega (arith, landed i failed (λ z. no z) h, d.few) })
      where
        no : failed ≡ flying → ⊥
        no z = omega arith
    go (answers own ours id body v i ec k h p e q a) =
        subst (Limited n) (sym e)
        (record {
          same = all-limit ours (heard_ids body) (mark i answered l) ∙ d.same;
          few = omega (arith, all-weigh flying_one fresh-none ours (heard_ids body) (mark i answered l), landed i answered (λ z. no z) h, d.few);
        })
      where
        no : answered ≡ flying → ⊥
        no z = omega arith

pub all-limited : (n : ℕ) (cs : List Call) (s : Step) → Sound s.lookup → Limited n s.lookup → Limited n (outcome step s cs).lookup
unfolding outcome
all-limited n [] s h d = d
all-limited n (c ∷ cs) s h d = all-limited n cs (step c s.lookup) (sound-step c s.lookup h) (step-limited n c s.lookup h d)

-- ---- at the start all are idle
pub idle-weigh : (w : Candidate → ℕ) (t : List ℕ) → ((i : ℕ) → w (contact_at t i) ≡ 0) → (ls : List ℕ) → sum_of w (map (contact_at t) ls) ≡ 0
idle-weigh w t z [] = sum-nil w
idle-weigh w t z (i ∷ ls) = omega (arith, sum-cons w (contact_at t i) (map (contact_at t) ls), z i, idle-weigh w t z ls)

pub start-limited : (t key : List ℕ) (limit : ℕ) → Limited limit (begun t key limit)
unfolding first_ones
start-limited t key limit =
    record { same = refl; few = omega (arith, ap (sum_of flying_one) (begun-candidates t key limit), idle-weigh flying_one t (λ i. refl) (nearest_slots t (sha256 key))) }

pub start-unasked : (t key : List ℕ) (limit : ℕ) → sum_of asked_one (candidates_of (begun t key limit)) ≡ 0
unfolding first_ones
start-unasked t key limit = ap (sum_of asked_one) (begun-candidates t key limit) ∙ idle-weigh asked_one t (λ i. refl) (nearest_slots t (sha256 key))
