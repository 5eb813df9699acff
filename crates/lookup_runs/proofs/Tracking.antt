-- Whom the history says to have been asked, to have answered or failed, the marks say so of: for every place. Assumes nothing.
use Prim.Native.Nat.{ℕ, ◌<◌}
use mathlib.Core.Path.{◌≡◌, refl, sym, ap, ◌∙◌}
use mathlib.Core.Bool.{Bool, true, false, not, ◌&&◌, ◌||◌}
use mathlib.Core.List.{List, [], ◌∷◌, map}
use lib.Dec.{eqb, ltb}
use lib.ListN.{length, get_or}
use borrow.Author.Tests.{eq-eqb, not-false}
use Rattle.octets.specs.Octets.{same}
use Rattle.octets.proofs.Bools.{cond_ind, and-on, and-off, and-fails, or_off, not_yes, not-no}
use Rattle.sha256.specs.Sha256.{sha256}
use Rattle.contacts.specs.Near.{nearest_slots}
use Rattle.message.specs.declared.Fields.{Fields}
use Rattle.lookup_marks.specs.Marks.{idle, flying, answered, failed}
use Rattle.octets.specs.Search.{any_in}
use Rattle.message.specs.Kinds.{find_node}
use Rattle.lookup.specs.Lookup.{room, candidates_of, turn_away, put, with_mark, mark, id_fits, fresh, known, enter, meet, hear, hear_all, heard_ids, nobody, begun, contact_at, first_ones}
use Rattle.lookup_candidates.specs.declared.Candidate.{Candidate}
use Rattle.lookup.specs.Value.{Lookup, Step}
use Rattle.lookup.specs.declared.Answer.{Answer}
use Rattle.lookup.specs.declared.Answer.TheVariants.{Complete, CutShort, Wait, Ask, Going}
use Rattle.lookup_runs.specs.Runs.{accepted, Call, go_next, go_reply, go_fail, step, outcome}
use Rattle.lookup_runs.specs.History.{Event, history, tells, answers_in, has_answered, fails_in, has_failed, named_in, means_peer, asks_for, asks_peer, has_been_asked}
use Rattle.lookup_runs.proofs.Marking.{marked-candidates, put-candidates, at_mark, any-set, any-unset, any-entered}
use Rattle.lookup_runs.proofs.Moves.{Quiet, Silent, Fails, Has, Move, stays, asks, fails, answers, moved}
use Rattle.lookup_runs.proofs.Sound.{Sound, sound-step, begun-candidates}
use Rattle.std.specs.Prelude.{Ok, Err, Result}
use Rattle.refusal.specs.declared.Refusal.{Refusal}

-- ---- what a call tells, by the kind of its move
pub silent-tells : (q : Call → Bool) → q go_next ≡ false → (c : Call) (a : Result Answer Refusal) → Silent c a → (accepted a && q c) ≡ false
silent-tells q z go_next a s = and-fails (accepted a) (q go_next) z
silent-tells q z (go_reply own ours id body v) a s = and-off (accepted a) (q (go_reply own ours id body v)) s
silent-tells q z (go_fail own ours id) a s = and-off (accepted a) (q (go_fail own ours id)) s

fails-unanswered : (p id : List ℕ) (c : Call) → Fails id c → answers_in p c ≡ false
fails-unanswered p id go_next f = refl
fails-unanswered p id (go_reply own ours from body v) f = and-off (eqb v.kind find_node) (same (sha256 from) p) f.0
fails-unanswered p id (go_fail own ours from) f = refl

fails-failed : (p id : List ℕ) (c : Call) → Fails id c → fails_in p c ≡ same (sha256 id) p
fails-failed p id go_next f = absurd f
fails-failed p id (go_reply own ours from body v) f =
    and-on (not (eqb v.kind find_node)) (same (sha256 from) p) (not-no (eqb v.kind find_node) f.0) ∙ ap (λ (x : List ℕ). same (sha256 x) p) f.1
fails-failed p id (go_fail own ours from) f = ap (λ (x : List ℕ). same (sha256 x) p) f

pub fails-unnamed : (p id : List ℕ) (c : Call) → Fails id c → named_in p c ≡ false
fails-unnamed p id go_next f = refl
fails-unnamed p id (go_reply own ours from body v) f = and-off (eqb v.kind find_node) (any_in (means_peer p ours) (heard_ids body)) f.0
fails-unnamed p id (go_fail own ours from) f = refl

module _ (p own ours id body : List ℕ) (v : Fields) (k : v.kind ≡ find_node) where
  answers-answered : answers_in p (go_reply own ours id body v) ≡ same (sha256 id) p
  answers-answered = and-on (eqb v.kind find_node) (same (sha256 id) p) (eq-eqb v.kind find_node k)

  answers-unfailed : fails_in p (go_reply own ours id body v) ≡ false
  answers-unfailed = and-off (not (eqb v.kind find_node)) (same (sha256 id) p) (not_yes (eqb v.kind find_node) (eq-eqb v.kind find_node k))

  pub answers-named : named_in p (go_reply own ours id body v) ≡ any_in (means_peer p ours) (heard_ids body)
  answers-named = and-on (eqb v.kind find_node) (any_in (means_peer p ours) (heard_ids body)) (eq-eqb v.kind find_node k)

quiet-asks : (p : List ℕ) (cs : List Candidate) (a : Result Answer Refusal) → Quiet a → asks_for p cs a ≡ false
quiet-asks p cs (Ok (Ask i)) q = absurd q
quiet-asks p cs (Err r) q = refl
quiet-asks p cs (Ok (Complete n)) q = refl
quiet-asks p cs (Ok (CutShort n)) q = refl
quiet-asks p cs (Ok Wait) q = refl
quiet-asks p cs (Ok Going) q = refl

-- ---- a test of candidates that no newcomer passes
module _ (q : Candidate → Bool) (no : (id : List ℕ) → id_fits id ≡ true → q (fresh id) ≡ false) where
  hear-any : (ours id : List ℕ) (l : Lookup) → any_in q (candidates_of (hear ours id l)) ≡ any_in q (candidates_of l)
  unfolding hear meet
  hear-any ours id l =
      cond_ind P (not (id_fits id)) l _ (λ e. refl)
      (λ f. cond_ind P (same (sha256 id) ours) l _ (λ e. refl)
      (λ o. cond_ind P (known (sha256 id) (candidates_of l)) l _ (λ e. refl)
      (λ k. cond_ind P (ltb l.count room) (put l (enter l.target (fresh id) (candidates_of l))) (turn_away l)
      (λ e. ap (any_in q) (put-candidates l (enter l.target (fresh id) (candidates_of l))) ∙ any-entered q l.target (fresh id) (candidates_of l)
      ∙ or_off (q (fresh id)) (any_in q (candidates_of l)) (no id (not-false (id_fits id) f)))
      (λ e. refl))))
    where
      P : Lookup → Type 0
      P k = any_in q (candidates_of k) ≡ any_in q (candidates_of l)

  pub all_any : (ours : List ℕ) (ids : List (List ℕ)) (l : Lookup) → any_in q (candidates_of (hear_all ours ids l)) ≡ any_in q (candidates_of l)
  unfolding hear_all
  all_any ours [] l = refl
  all_any ours (id ∷ ids) l = all_any ours ids (hear ours id l) ∙ hear-any ours id l

-- a mark set, of one that passes not, and of one that passes as before
module _ (q : Candidate → Bool) (i m : ℕ) (l : Lookup) where
  set-any : i < length (candidates_of l) → q (get_or (candidates_of l) i nobody) ≡ false
      → any_in q (candidates_of (mark i m l)) ≡ (q (with_mark m (get_or (candidates_of l) i nobody)) || any_in q (candidates_of l))
  set-any h e = ap (any_in q) (marked-candidates i m l) ∙ any-set q i m (candidates_of l) h e

  pub unset-any : q (with_mark m (get_or (candidates_of l) i nobody)) ≡ q (get_or (candidates_of l) i nobody) → any_in q (candidates_of (mark i m l)) ≡ any_in q (candidates_of l)
  unset-any e = ap (any_in q) (marked-candidates i m l) ∙ any-unset q i m (candidates_of l) e

-- ---- the candidate at p has the mark m; and is no longer idle
abbrev pub marked_at : ℕ → List ℕ → Candidate → Bool
marked_at m p c = eqb c.mark m && same c.place p

abbrev pub spent_at : List ℕ → Candidate → Bool
spent_at p c = not (eqb c.mark idle) && same c.place p

not-marked : (m n : ℕ) (p : List ℕ) (c : Candidate) → c.mark ≡ n → eqb n m ≡ false → marked_at m p c ≡ false
not-marked m n p c e z = and-off (eqb c.mark m) (same c.place p) (ap (λ (x : ℕ). eqb x m) e ∙ z)

module _ (p : List ℕ) (c : Call) (l : Lookup) (s : Sound l) where
  abbrev now : Event
  now = record { call = c; gave = step c l }

  abbrev at : ℕ → Candidate
  at i = get_or (candidates_of l) i nobody

  -- ---- answered
  abbrev A : Lookup → Bool
  A k = any_in (marked_at answered p) (candidates_of k)

  still-A : tells (answers_in p) now ≡ false → A (step c l).lookup ≡ A l
      → A (step c l).lookup ≡ (tells (answers_in p) now || A l)
  still-A z e = e ∙ sym (or_off _ (A l) z)

  step-answered : A (step c l).lookup ≡ (tells (answers_in p) now || A l)
  step-answered = go (moved c l s.long)
    where
      go : Move c l (step c l) → A (step c l).lookup ≡ (tells (answers_in p) now || A l)
      go (stays e q n) = still-A (silent-tells (answers_in p) refl c (step c l).answer n) (ap A e)
      go (asks i ec h g e q) =
          still-A (and-fails (accepted (step c l).answer) (answers_in p c) (ap (answers_in p) ec))
          (ap A e ∙ set-any (marked_at answered p) i flying l h.within (not-marked answered idle p (at i) h.is refl))
      go (fails id i f h pl e q a) =
          still-A (and-fails (accepted (step c l).answer) (answers_in p c) (fails-unanswered p id c f))
          (ap A e ∙ set-any (marked_at answered p) i failed l h.within (not-marked answered flying p (at i) h.is refl))
      go (answers own ours id body v i ec k h pl e q a) =
          ap A e ∙ all_any (marked_at answered p) (λ x f. refl) ours (heard_ids body) (mark i answered l)
          ∙ set-any (marked_at answered p) i answered l h.within (not-marked answered flying p (at i) h.is refl)
          ∙ ap (λ (b : Bool). b || A l) (ap (λ (x : List ℕ). same x p) pl ∙ sym (and-on (accepted (step c l).answer) (answers_in p c) a ∙ ap (answers_in p) ec ∙ answers-answered p own ours id body v k))

  -- ---- failed
  abbrev F : Lookup → Bool
  F k = any_in (marked_at failed p) (candidates_of k)

  still-F : tells (fails_in p) now ≡ false → F (step c l).lookup ≡ F l
      → F (step c l).lookup ≡ (tells (fails_in p) now || F l)
  still-F z e = e ∙ sym (or_off _ (F l) z)

  step-failed : F (step c l).lookup ≡ (tells (fails_in p) now || F l)
  step-failed = go (moved c l s.long)
    where
      go : Move c l (step c l) → F (step c l).lookup ≡ (tells (fails_in p) now || F l)
      go (stays e q n) = still-F (silent-tells (fails_in p) refl c (step c l).answer n) (ap F e)
      go (asks i ec h g e q) =
          still-F (and-fails (accepted (step c l).answer) (fails_in p c) (ap (fails_in p) ec))
          (ap F e ∙ set-any (marked_at failed p) i flying l h.within (not-marked failed idle p (at i) h.is refl))
      go (fails id i f h pl e q a) =
          ap F e ∙ set-any (marked_at failed p) i failed l h.within (not-marked failed flying p (at i) h.is refl)
          ∙ ap (λ (b : Bool). b || F l) (ap (λ (x : List ℕ). same x p) pl ∙ sym (and-on (accepted (step c l).answer) (fails_in p c) a ∙ fails-failed p id c f))
      go (answers own ours id body v i ec k h pl e q a) =
          still-F (and-fails (accepted (step c l).answer) (fails_in p c) (ap (fails_in p) ec ∙ answers-unfailed p own ours id body v k))
          (ap F e ∙ all_any (marked_at failed p) (λ x f. refl) ours (heard_ids body) (mark i answered l)
          ∙ set-any (marked_at failed p) i answered l h.within (not-marked failed flying p (at i) h.is refl))

  -- ---- asked
  abbrev S : Lookup → Bool
  S k = any_in (spent_at p) (candidates_of k)

  still-S : Quiet (step c l).answer → S (step c l).lookup ≡ S l → S (step c l).lookup ≡ (asks_peer p now || S l)
  still-S q e = e ∙ sym (or_off _ (S l) (quiet-asks p (candidates_of (step c l).lookup) (step c l).answer q))

  -- one in flight, whatever mark but idle it gets
  flown : (i m : ℕ) → not (eqb m idle) ≡ true → Has l i flying → S (mark i m l) ≡ S l
  flown i m z h =
      unset-any (spent_at p) i m l
      (ap (λ (b : Bool). b && same (at i).place p) (z ∙ sym (ap (λ (x : ℕ). not (eqb x idle)) h.is)))

  step-asked : S (step c l).lookup ≡ (asks_peer p now || S l)
  step-asked = go (moved c l s.long)
    where
      go : Move c l (step c l) → S (step c l).lookup ≡ (asks_peer p now || S l)
      go (stays e q n) = still-S q (ap S e)
      go (asks i ec h g e q) =
          let x : (get_or (candidates_of (mark i flying l)) i nobody).place ≡ (at i).place =
          ap (λ (cs : List Candidate). (get_or cs i nobody).place) (marked-candidates i flying l) ∙ ap (λ (d : Candidate). d.place) (at_mark i flying (candidates_of l) h.within) in
          let r : asks_peer p now ≡ same (at i).place p =
          ap (asks_for p (candidates_of (step c l).lookup)) q ∙ ap (λ (k : Lookup). same (get_or (candidates_of k) i nobody).place p) e ∙ ap (λ (y : List ℕ). same y p) x in
          ap S e ∙ set-any (spent_at p) i flying l h.within (and-off (not (eqb (at i).mark idle)) (same (at i).place p) (ap (λ (y : ℕ). not (eqb y idle)) h.is))
          ∙ ap (λ (b : Bool). b || S l) (sym r)
      go (fails id i f h pl e q a) = still-S q (ap S e ∙ flown i failed refl h)
      go (answers own ours id body v i ec k h pl e q a) =
          still-S q (ap S e ∙ all_any (spent_at p) (λ y f. refl) ours (heard_ids body) (mark i answered l) ∙ flown i answered refl h)

-- ---- over any calls
or-along : (a b c : Bool) → (a || (b || c)) ≡ ((b || a) || c)
or-along true true c = refl
or-along true false c = refl
or-along false true c = refl
or-along false false c = refl

module _ (q : Candidate → Bool) (says : Event → Bool)
    (law : (c : Call) (l : Lookup) → Sound l → any_in q (candidates_of (step c l).lookup) ≡ (says (record { call = c; gave = step c l }) || any_in q (candidates_of l))) where
  tracks : (cs : List Call) (s : Step) → Sound s.lookup
      → any_in q (candidates_of (outcome step s cs).lookup) ≡ (any_in says (history step s cs) || any_in q (candidates_of s.lookup))
  unfolding outcome history any_in
  tracks [] s h = refl
  tracks (c ∷ cs) s h =
      tracks cs (step c s.lookup) (sound-step c s.lookup h)
      ∙ ap (λ (b : Bool). any_in says (history step (step c s.lookup) cs) || b) (law c s.lookup h)
      ∙ or-along (any_in says (history step (step c s.lookup) cs)) (says (record { call = c; gave = step c s.lookup })) (any_in q (candidates_of s.lookup))

  since : (cs : List Call) (s : Step) → Sound s.lookup → any_in q (candidates_of s.lookup) ≡ false
      → any_in says (history step s cs) ≡ any_in q (candidates_of (outcome step s cs).lookup)
  since cs s h z = sym (tracks cs s h ∙ ap (λ (b : Bool). any_in says (history step s cs) || b) z ∙ or-false (any_in says (history step s cs)))
    where
      or-false : (b : Bool) → (b || false) ≡ b
      or-false true = refl
      or-false false = refl

-- all are idle
pub record Untouched (l : Lookup) : Type 0 where
  pub answered : (p : List ℕ) → any_in (marked_at answered p) (candidates_of l) ≡ false
  pub failed : (p : List ℕ) → any_in (marked_at failed p) (candidates_of l) ≡ false
  pub asked : (p : List ℕ) → any_in (spent_at p) (candidates_of l) ≡ false

module _ (cs : List Call) (s : Step) (h : Sound s.lookup) (u : Untouched s.lookup) (p : List ℕ) where
  pub answered-marked : has_answered p (history step s cs) ≡ any_in (marked_at answered p) (candidates_of (outcome step s cs).lookup)
  answered-marked = since (marked_at answered p) (tells (answers_in p)) (step-answered p) cs s h (u.answered p)

  pub failed-marked : has_failed p (history step s cs) ≡ any_in (marked_at failed p) (candidates_of (outcome step s cs).lookup)
  failed-marked = since (marked_at failed p) (tells (fails_in p)) (step-failed p) cs s h (u.failed p)

  pub asked-marked : has_been_asked p (history step s cs) ≡ any_in (spent_at p) (candidates_of (outcome step s cs).lookup)
  asked-marked = since (spent_at p) (asks_peer p) (step-asked p) cs s h (u.asked p)

-- so it is at the start
pub none-idle : (t : List ℕ) (q : Candidate → Bool) → ((i : ℕ) → q (contact_at t i) ≡ false) → (ls : List ℕ) → any_in q (map (contact_at t) ls) ≡ false
unfolding any_in
none-idle t q z [] = refl
none-idle t q z (i ∷ ls) = or_off (q (contact_at t i)) (any_in q (map (contact_at t) ls)) (z i) ∙ none-idle t q z ls

pub start-untouched : (t key : List ℕ) (limit : ℕ) → Untouched (begun t key limit)
unfolding first_ones
start-untouched t key limit =
    record {
      answered = λ p. ap (any_in (marked_at answered p)) (begun-candidates t key limit) ∙ none-idle t (marked_at answered p) (λ i. refl) (nearest_slots t (sha256 key));
      failed = λ p. ap (any_in (marked_at failed p)) (begun-candidates t key limit) ∙ none-idle t (marked_at failed p) (λ i. refl) (nearest_slots t (sha256 key));
      asked = λ p. ap (any_in (spent_at p)) (begun-candidates t key limit) ∙ none-idle t (spent_at p) (λ i. refl) (nearest_slots t (sha256 key));
    }
