-- The theorems of specs/Claims.antt. Assumes nothing.
use Prim.Native.Nat.{ℕ, zero, suc, ◌≤◌, ◌<◌}
use mathlib.Core.Path.{◌≡◌, refl, sym, ap, ◌∙◌, subst}
use mathlib.Core.Logic.{◌⊎◌, ⊎_elim}
use mathlib.Core.Bool.{Bool, true, false, cond, not, ◌&&◌}
use mathlib.Core.List.{List, [], ◌∷◌, map}
use native.Mathlib.Omega.{arith}
use lib.Dec.{eqb, leb}
use lib.ListN.{length, get_or, take, length-map}
use lib.Seq.{length-take-le}
use borrow.Author.Tests.{leb-true, ltb-false, not-true}
use Rattle.octets.specs.Octets.{same}
use Rattle.octets.proofs.Bools.{and_l, and_r, and_i, either, or-e, or_l, or_r, not-both, not-no, same_way, all_head}
use Rattle.octets.proofs.Strings.{same-eq, same_refl}
use Rattle.limits.specs.Limits.{most_id, most_near}
use Rattle.sha256.specs.Sha256.{sha256}
use Rattle.sha256.proofs.Laws.{length-sha256}
use Rattle.lookup_marks.specs.Marks.{idle, flying, answered, failed}
use Rattle.lookup_marks.specs.declared.Ranks.{Ranks}
use Rattle.octets.specs.Search.{any_in}
use Rattle.lookup.specs.Lookup.{room, candidates_of, lies_at, known, nobody, well_made, nearest_first, begun, start_of}
use Rattle.lookup_candidates.specs.declared.Candidate.{Candidate}
use Rattle.lookup.specs.Value.{Lookup, Step}
use Rattle.lookup.specs.declared.Answer.TheVariants.{Complete, CutShort}
use Rattle.lookup.proofs.Form.{formed}
use Rattle.lookup_runs.specs.Runs.{Started, Call, step, outcome}
use Rattle.lookup_runs.specs.History.{Event, history, tells, has_answered, has_failed, has_been_asked, named_in, is_contact, heard_of, mark_by, places_found, TwentyNearest}
use Rattle.lookup_runs.specs.Claims.{MeansOver, MeansComplete, MeansCutShort, Claims}
use Rattle.lookup_runs.proofs.Sums.{sum_of, asked_one, flights-sum}
use Rattle.lookup_runs.proofs.Members.{In, at_in, take_in, in-any, any-in}
use Rattle.lookup_runs.proofs.Order.{rising, all_made}
use Rattle.lookup.proofs.Steps.{settled-lookup}
use Rattle.lookup_runs.proofs.Sound.{Sound, sound-outcome, outcome-target, sound-start, Taken, taken, first-lie, begun-candidates}
use Rattle.lookup_runs.proofs.Asking.{asked-once, sent-requests, Limited, all-limited, start-limited, start-unasked}
use Rattle.lookup_runs.proofs.Tracking.{spent_at, Untouched, answered-marked, failed-marked, asked-marked, start-untouched}
use Rattle.lookup_runs.proofs.Ids.{Stranger, own-id, start-own}
use Rattle.lookup_runs.proofs.Hearing.{Lost, calls-stay, named-kept, known-named, turned-lost}
use Rattle.lookup_runs.proofs.Nearest.{place_of, place_at, twenty, found-places, over-answered, left_in, alone, twenty-nearest}
use Rattle.lookup_runs.proofs.Ending.{Ended, EndsWell, Well, settled-well, outcome-well, sent-few, stays-over, repeats, never-0}
use Rattle.std.specs.Prelude.{Ok}

-- ---- a mark of 0 to 3 is the one that its three tests call for
mark-is : (m : ℕ) → m ≤ failed → m ≡ cond (eqb m failed) failed (cond (eqb m answered) answered (cond (not (eqb m idle)) flying idle))
mark-is zero h = refl
mark-is (suc zero) h = refl
mark-is (suc (suc zero)) h = refl
mark-is (suc (suc (suc zero))) h = refl
mark-is (suc (suc (suc (suc m)))) h = absurd (omega arith)

made-mark : (c : Candidate) → well_made c ≡ true → c.mark ≤ failed
unfolding well_made
made-mark c w = leb-true c.mark failed (all_head (leb c.mark failed) (leb 1 c.len ∷ leb c.len most_id ∷ []) w)

-- ---- what a start gives
pub record Begins (t key : List ℕ) (limit : ℕ) (s : Step) : Type 0 where
  pub sound : Sound s.lookup
  pub untouched : Untouched s.lookup
  pub target : s.lookup.target ≡ sha256 key
  pub contacts : (p : List ℕ) → known p (candidates_of s.lookup) ≡ is_contact t key p
  pub room : s.lookup.turned ≡ false
  pub unasked : sum_of asked_one (candidates_of s.lookup) ≡ 0
  pub limited : Limited limit s.lookup
  pub own : Stranger t key s.lookup ≡ false
  pub well : Well s

pub begins : (t own ours key : List ℕ) (limit : ℕ) → Started t own ours key limit → Begins t key limit (start_of t own ours key limit)
begins t own ours key limit st =
    let k : Taken t own ours key limit = taken t own ours key limit st in
    let e : begun t key limit ≡ (start_of t own ours key limit).lookup = sym (ap (λ (x : Step). x.lookup) k.gave ∙ settled-lookup (begun t key limit)) in
    record {
      sound = subst Sound e (sound-start t own ours key limit st);
      untouched = subst Untouched e (start-untouched t key limit);
      target = sym (ap (λ (l : Lookup). l.target) e);
      contacts = λ p. sym (ap (λ (l : Lookup). known p (candidates_of l)) e) ∙ ap (known p) (begun-candidates t key limit)
          ∙ first-lie t ours (sha256 key) st.bytes k.table (length-sha256 key) p;
      room = sym (ap (λ (l : Lookup). l.turned) e);
      unasked = sym (ap (λ (l : Lookup). sum_of asked_one (candidates_of l)) e) ∙ start-unasked t key limit;
      limited = subst (Limited limit) e (start-limited t key limit);
      own = sym (ap (Stranger t key) e) ∙ start-own t key ours st.bytes k.table limit;
      well = subst Well (sym k.gave) (settled-well (begun t key limit));
    }

-- ---- after any calls
module _ (t key : List ℕ) (limit : ℕ) (s : Step) (b : Begins t key limit s) (cs : List Call) where
  abbrev l : Lookup
  l = (outcome step s cs).lookup

  abbrev h : List Event
  h = history step s cs

  sound : Sound l
  sound = sound-outcome cs s b.sound

  order : nearest_first l.target (candidates_of l) ≡ true
  order = (formed l sound.form).order

  -- who is a candidate was heard of; who was heard of is a candidate, unless the lookup is marked
  known-heard : (p : List ℕ) → known p (candidates_of l) ≡ true → heard_of t key p h ≡ true
  known-heard p k =
      ⊎_elim (λ a. or_l (is_contact t key p) (any_in (tells (named_in p)) h) (sym (b.contacts p) ∙ a)) (λ a. or_r (is_contact t key p) (any_in (tells (named_in p)) h) a)
      (known-named p cs s b.sound k)

  heard-known : (p : List ℕ) → l.turned ≡ false → heard_of t key p h ≡ true → known p (candidates_of l) ≡ true
  heard-known p u a =
      ⊎_elim (λ c. calls-stay p cs s b.sound (b.contacts p ∙ c))
      (λ c. ⊎_elim (λ k. k) (λ k. absurd (not-both l.turned k u)) (named-kept p cs s b.sound c))
      (or-e (is_contact t key p) (any_in (tells (named_in p)) h) a)

  -- where the lookup is marked, someone heard of is no candidate, and there is no room
  turned-away : l.turned ≡ true → (p : List ℕ) × (heard_of t key p h ≡ true) × Lost p l
  turned-away u =
      ⊎_elim (λ a. absurd (not-both s.lookup.turned a b.room))
      (λ a. (a.0, or_r (is_contact t key a.0) (any_in (tells (named_in a.0)) h) a.1, a.2)) (turned-lost cs s b.sound u)

  turned-full : l.turned ≡ true → length (candidates_of l) ≡ room
  turned-full u =
      omega (
        arith,
        ltb-false l.count room (turned-away u).2.1,
        length-take-le l.count l.candidates (omega (arith, (formed l sound.form).fits, sound.long)),
        (formed l sound.form).fits,
      )

  unknown-full : (p : List ℕ) → heard_of t key p h ≡ true → known p (candidates_of l) ≡ false → length (candidates_of l) ≡ room
  unknown-full p a k =
      ⊎_elim turned-full (λ u. absurd (not-both (known p (candidates_of l)) (heard-known p u a) k)) (either l.turned)

  -- a test of the mark, asked of the place of a candidate
  lone : (q : ℕ → Bool) (c : Candidate) → In c (candidates_of l) → any_in (λ (d : Candidate). q d.mark && same d.place c.place) (candidates_of l) ≡ q c.mark
  lone q c m =
      same_way _ (q c.mark)
      (λ e. let r = any-in (λ (d : Candidate). q d.mark && same d.place c.place) (candidates_of l) e in
      subst (λ (d : Candidate). q d.mark ≡ true) (alone l.target (rising l.target (candidates_of l) order) r.1 m (same-eq r.0.place c.place (and_r (q r.0.mark) _ r.2)))
      (and_l (q r.0.mark) _ r.2))
      (λ e. in-any (λ (d : Candidate). q d.mark && same d.place c.place) m (and_i (q c.mark) _ e (same_refl c.place)))

  answered-by : (c : Candidate) → In c (candidates_of l) → has_answered c.place h ≡ eqb c.mark answered
  answered-by c m = answered-marked cs s b.sound b.untouched c.place ∙ lone (λ x. eqb x answered) c m

  failed-by : (c : Candidate) → In c (candidates_of l) → has_failed c.place h ≡ eqb c.mark failed
  failed-by c m = failed-marked cs s b.sound b.untouched c.place ∙ lone (λ x. eqb x failed) c m

  asked_by : (c : Candidate) → In c (candidates_of l) → has_been_asked c.place h ≡ not (eqb c.mark idle)
  asked_by c m = asked-marked cs s b.sound b.untouched c.place ∙ lone (λ x. not (eqb x idle)) c m

  mark-by : (c : Candidate) → In c (candidates_of l) → c.mark ≡ mark_by c.place h
  mark-by c m =
      mark-is c.mark (made-mark c (all_made l.target order m))
      ∙ sym (ap (λ (x : Bool). cond x failed (cond (has_answered c.place h) answered (cond (has_been_asked c.place h) flying idle))) (failed-by c m)
      ∙ ap (λ (x : Bool). cond (eqb c.mark failed) failed (cond x answered (cond (has_been_asked c.place h) flying idle))) (answered-by c m)
      ∙ ap (λ (x : Bool). cond (eqb c.mark failed) failed (cond (eqb c.mark answered) answered (cond x flying idle))) (asked_by c m))

  -- who was asked is a candidate
  asked-known : (p : List ℕ) → has_been_asked p h ≡ true → known p (candidates_of l) ≡ true
  asked-known p a =
      let r = any-in (spent_at p) (candidates_of l) (sym (asked-marked cs s b.sound b.untouched p) ∙ a) in
      in-any (lies_at p) r.1 (and_r (not (eqb r.0.mark idle)) (same r.0.place p) r.2)

  -- ---- the ones found
  module _ (n : ℕ) (w : Ended l (outcome step s cs).found n) where
    places : map place_of (twenty (candidates_of l)) ≡ places_found (outcome step s cs)
    places =
        sym (ap (λ (f : Ranks). map (λ r. (get_or (candidates_of l) r nobody).place) (take f.n f.at)) w.ranks ∙ found-places (candidates_of l))

    all-answered : (i : ℕ) → i < length (places_found (outcome step s cs)) → has_answered (get_or (places_found (outcome step s cs)) i []) h ≡ true
    all-answered = subst (λ (ps : List (List ℕ)). (i : ℕ) → i < length ps → has_answered (get_or ps i []) h ≡ true) places each
      where
        each : (i : ℕ) → i < length (map place_of (twenty (candidates_of l))) → has_answered (get_or (map place_of (twenty (candidates_of l))) i []) h ≡ true
        each i g =
            let k : i < length (twenty (candidates_of l)) = omega (arith, length-map (twenty (candidates_of l)) place_of) in
            let m : In (get_or (twenty (candidates_of l)) i nobody) (twenty (candidates_of l)) = at_in (twenty (candidates_of l)) i k in
            ap (λ (p : List ℕ). has_answered p h) (place_at (twenty (candidates_of l)) i k)
            ∙ answered-by (get_or (twenty (candidates_of l)) i nobody) (left_in (candidates_of l) (take_in most_near _ m)).0
            ∙ over-answered (candidates_of l) w.over m

    all-nearest : (who : List ℕ → Bool) → ((p : List ℕ) → who p ≡ known p (candidates_of l))
        → TwentyNearest (λ p. who p && not (has_failed p h)) (sha256 key) (places_found (outcome step s cs))
    all-nearest who is =
        subst (λ (x : List ℕ). TwentyNearest (λ p. who p && not (has_failed p h)) x (places_found (outcome step s cs))) (outcome-target cs s b.sound ∙ b.target)
        (subst (TwentyNearest (λ p. who p && not (has_failed p h)) l.target) places
        (twenty-nearest l.target (λ p. who p && not (has_failed p h)) (candidates_of l) order yes only))
      where
        yes : (c : Candidate) → In c (candidates_of l) → eqb c.mark failed ≡ false → (who c.place && not (has_failed c.place h)) ≡ true
        yes c m z =
            and_i (who c.place) (not (has_failed c.place h)) (is c.place ∙ in-any (lies_at c.place) m (same_refl c.place))
            (not-no (has_failed c.place h) (failed-by c m ∙ z))

        only : (p : List ℕ) → (who p && not (has_failed p h)) ≡ true → (c : Candidate) × In c (candidates_of l) × (eqb c.mark failed ≡ false) × (c.place ≡ p)
        only p e =
            let r = any-in (lies_at p) (candidates_of l) (sym (is p) ∙ and_l (who p) (not (has_failed p h)) e) in
            let at : r.0.place ≡ p = same-eq r.0.place p r.2 in
            (r.0, r.1, sym (failed-by r.0 r.1) ∙ ap (λ (x : List ℕ). has_failed x h) at ∙ not-true (has_failed p h) (and_r (who p) (not (has_failed p h)) e), at)

    means-over : (who : List ℕ → Bool) → ((p : List ℕ) → who p ≡ known p (candidates_of l)) → MeansOver who key h (outcome step s cs) n
    means-over who is =
        record {
          nearest = all-nearest who is;
          answered = all-answered;
          sent = w.sent ∙ sent-requests cs s b.sound b.unasked;
          few = omega (arith, w.sent, sent-few l sound);
        }

  means-complete : (n : ℕ) → (outcome step s cs).answer ≡ Ok (Complete n) → MeansComplete t key h (outcome step s cs) n
  means-complete n e =
      let w : Ended l (outcome step s cs).found n × (l.turned ≡ false) = subst (EndsWell l (outcome step s cs).found) e (outcome-well cs s b.well) in
      record {
        over = means-over n w.0 (λ p. heard_of t key p h) (λ p. same_way (heard_of t key p h) (known p (candidates_of l)) (heard-known p w.1) (known-heard p));
        roomy = λ p a. heard-known p w.1 a;
      }

  means-cut-short : (n : ℕ) → (outcome step s cs).answer ≡ Ok (CutShort n) → MeansCutShort t key h (outcome step s cs) n
  means-cut-short n e =
      let w : Ended l (outcome step s cs).found n × (l.turned ≡ true) = subst (EndsWell l (outcome step s cs).found) e (outcome-well cs s b.well) in
      record {
        over = means-over n w.0 (λ p. known p (candidates_of l)) (λ p. refl);
        turned = ((turned-away w.1).0, (turned-away w.1).1, (turned-away w.1).2.0);
        full = turned-full w.1;
      }

pub claims : (t own ours key : List ℕ) (limit : ℕ) → Started t own ours key limit → Claims step t key limit (start_of t own ours key limit)
unfolding step
claims t own ours key limit st =
    record {
      once = λ cs p. asked-once p cs s b.sound;
      complete = λ cs n e. means-complete t key limit s b cs n e;
      cut_short = λ cs n e. means-cut-short t key limit s b cs n e;
      asked = λ cs p a. asked-known t key limit s b cs p a;
      heard = λ cs p k. known-heard t key limit s b cs p k;
      stays = λ cs more p k. calls-stay p more (outcome step s cs) (at cs) k;
      marks = λ cs i k. mark-by t key limit s b cs (get_or (candidates_of (outcome step s cs).lookup) i nobody) (at_in (candidates_of (outcome step s cs).lookup) i k);
      ids = λ cs i k. own-id t key cs s b.sound b.own (at_in (candidates_of (outcome step s cs).lookup) i k);
      full = λ cs p a k. unknown-full t key limit s b cs p a k;
      limited = λ cs. omega (arith, flights-sum (candidates_of (outcome step s cs).lookup), (all-limited limit cs s b.sound b.limited).few);
      always = λ cs o. (λ more. stays-over more (outcome step s cs) (at cs) o, repeats (outcome step s cs).lookup (at cs).form o);
      form = λ cs. (at cs).form;
      never0 = λ cs c v e. never-0 c (outcome step s cs).lookup (at cs).form v e;
    }
  where
    s : Step
    s = start_of t own ours key limit

    b : Begins t key limit s
    b = begins t own ours key limit st

    at : (cs : List Call) → Sound (outcome step s cs).lookup
    at cs = sound-outcome cs s b.sound
