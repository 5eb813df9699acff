-- The three wrong lookups of specs/Fakes.antt don't meet the claims. Assumes nothing.
use Prim.Native.Nat.{ℕ, zero, suc, ◌≤◌, ◌<◌}
use mathlib.Core.Path.{◌≡◌, refl, sym, ap, ◌∙◌, subst}
use mathlib.Core.Logic.{⊎_elim}
use mathlib.Core.Bool.{Bool, true, false, cond, not, ◌&&◌, ◌||◌}
use mathlib.Core.List.{List, [], ◌∷◌, map}
use native.Mathlib.Omega.{arith}
use lib.Dec.{eqb, leb, ltb}
use lib.ListN.{length, get_or, take, length-take}
use borrow.Author.Tests.{lt-ltb, lt-leb, eq-eqb}
use Rattle.octets.specs.Octets.{same}
use Rattle.octets.specs.Search.{every, first_in, any_in}
use Rattle.octets.proofs.Bools.{cond_yes, cond_no, and_i, and-off, and-fails, or_l, or-fails, not-both, not_yes, not-no}
use Rattle.octets.proofs.Strings.{same-yes, same-no, same_refl}
use Rattle.limits.specs.Limits.{most_near}
use Rattle.place.specs.Place.{distance}
use Rattle.sha256.specs.Sha256.{sha256}
use Rattle.contacts.specs.Near.{nearest_slots}
use Rattle.message.specs.declared.Fields.{Fields}
use Rattle.parts.specs.Parts.{is_view}
use Rattle.lookup_marks.specs.Marks.{idle, flying, answered, failed, marked, live, twenty_of, is_over, pick, idle_of, flights_of, sent_of, ranks_of}
use Rattle.message.specs.Kinds.{find_node}
use Rattle.lookup.specs.Lookup.{candidates_of, mark_of, marks_of, in_form, put, with_mark, with_candidates, mark_at, mark, gives, ends, settled, next_of, known, lies_at, flies, flyer_of, bad_step, whom_of, reported, nobody, contact_at, first_ones, begun, heard_ids, heard_from, hear_all, start_of}
use Rattle.lookup_candidates.specs.declared.Candidate.{Candidate}
use Rattle.lookup.specs.Value.{Lookup, Step}
use Rattle.lookup.specs.declared.Answer.{Answer}
use Rattle.lookup.specs.declared.Answer.TheVariants.{Ask, Going, Complete, CutShort}
use Rattle.lookup.proofs.Form.{formed}
use Rattle.lookup_runs.specs.Runs.{accepted, Started, Call, go_next, go_reply, go_fail, outcome}
use Rattle.lookup_runs.specs.History.{Event, history, has_answered, has_failed, asks_for, has_been_asked, is_contact, heard_of, mark_by, places_found, TwentyNearest}
use Rattle.lookup_runs.specs.Claims.{MeansComplete, Claims}
use Rattle.lookup_runs.specs.Fakes.{all_fail, drops_contacts, asks_one_of_two, NoFake}
use Rattle.lookup_runs.proofs.Sums.{sum_of, sum-cons, flying_one, flights-sum}
use Rattle.lookup_runs.proofs.Members.{In, here, there, in-any}
use Rattle.lookup_runs.proofs.Marking.{marked-candidates, put-candidates}
use Rattle.lookup_runs.proofs.Order.{dist, Beyond, Rising, rising}
use Rattle.lookup.proofs.Steps.{settled-lookup}
use Rattle.lookup_runs.proofs.Sound.{Sound, sound-mark, taken, begun-candidates}
use Rattle.lookup_runs.proofs.Asking.{idle-weigh}
use Rattle.lookup_runs.proofs.Tracking.{none-idle}
use Rattle.lookup_runs.proofs.Theorems.{Begins, begins}
use Rattle.std.specs.Prelude.{Ok, Result}
use Rattle.refusal.specs.declared.Refusal.{Refusal}

-- ---- next, where it asks
next-asks : (l : Lookup) (k : ℕ) → in_form l ≡ true → is_over (marks_of l) ≡ false → flights_of (marks_of l) < l.limit → idle_of (marks_of l) ≡ k → k < l.count
    → next_of l ≡ gives (mark k flying l) (Ok (Ask k))
unfolding next_of
next-asks l k f o g e h =
    cond_no (not (in_form l)) _ _ (not_yes (in_form l) f) ∙ cond_no (is_over (marks_of l)) _ _ o
    ∙ cond_no (leb l.limit (flights_of (marks_of l))) _ _ (lt-leb l.limit (flights_of (marks_of l)) g)
    ∙ cond_yes (ltb (idle_of (marks_of l)) l.count) _ _ (ap (λ (n : ℕ). ltb n l.count) e ∙ lt-ltb k l.count h)
    ∙ ap (λ (n : ℕ). gives (mark n flying l) (Ok (Ask n))) e

-- a report about the first candidate, in flight
flyer-first : (p : List ℕ) (c : Candidate) (rest : List Candidate) → same c.place p ≡ true → flyer_of p (with_mark flying c ∷ rest) ≡ 0
unfolding first_in flies
flyer-first p c rest e = cond_yes (same c.place p) 0 (suc (first_in (flies p) rest)) e

about-first : (l : Lookup) (own ours id : List ℕ) (c : Candidate) (rest : List Candidate) → in_form l ≡ true → bad_step own ours id ≡ false → is_over (marks_of l) ≡ false
    → candidates_of l ≡ with_mark flying c ∷ rest → sha256 id ≡ c.place → 0 < l.count → whom_of l own ours id ≡ Ok 0
unfolding whom_of
about-first l own ours id c rest f p o cs at h =
    cond_no (not (in_form l)) _ _ (not_yes (in_form l) f) ∙ cond_no (bad_step own ours id) _ _ p ∙ cond_no (is_over (marks_of l)) _ _ o
    ∙ cond_no (leb l.count (flyer_of (sha256 id) (candidates_of l))) _ _ (ap (leb l.count) first ∙ lt-leb l.count 0 h) ∙ ap Ok first
  where
    first : flyer_of (sha256 id) (candidates_of l) ≡ 0
    first = ap (flyer_of (sha256 id)) cs ∙ flyer-first (sha256 id) c rest (same-yes c.place (sha256 id) (sym at))

-- ---- the marks of a start with two contacts, and of one with the first in flight
over-two : (m : ℕ) (ms : List ℕ) → eqb m failed ≡ false → eqb m answered ≡ false → is_over (m ∷ ms) ≡ false
unfolding is_over twenty_of live every
over-two m ms z y =
    ap (λ (b : Bool). every (marked answered (m ∷ ms)) (take most_near (cond b (live 1 ms) (0 ∷ live 1 ms)))) z ∙ and-off (eqb m answered) _ y

idle-first : (ms : List ℕ) → idle_of (idle ∷ ms) ≡ 0
unfolding idle_of pick twenty_of live
idle-first ms = refl

idle-second : (ms : List ℕ) → idle_of (flying ∷ idle ∷ ms) ≡ 1
unfolding idle_of pick twenty_of live
idle-second ms = refl

-- over, and complete
over-complete : (l : Lookup) → is_over (marks_of l) ≡ true → l.turned ≡ false
    → settled l ≡ record { lookup = l; found = ranks_of (twenty_of (marks_of l)); answer = (Ok (Complete (sent_of (marks_of l)))) }
unfolding settled
over-complete l o u =
    cond_yes (is_over (marks_of l)) (ends l) (gives l (Ok Going)) o
    ∙ ap (λ (a : Result Answer Refusal). record { lookup = l; found = ranks_of (twenty_of (marks_of l)); answer = a }) (cond_no l.turned ((Ok (CutShort (sent_of (marks_of l))))) ((Ok (Complete (sent_of (marks_of l))))) u)

take-failed : (n : ℕ) (cs : List Candidate) → take n (map (with_mark failed) cs) ≡ map (with_mark failed) (take n cs)
take-failed zero [] = refl
take-failed zero (x ∷ cs) = refl
take-failed (suc n) [] = refl
take-failed (suc n) (x ∷ cs) = ap (λ (l : List Candidate). with_mark failed x ∷ l) (take-failed n cs)

none-live : (r : ℕ) (cs : List Candidate) → live r (map mark_of (map (with_mark failed) cs)) ≡ []
unfolding live
none-live r [] = refl
none-live r (x ∷ cs) = none-live (suc r) cs

next-beyond : (x : List ℕ) (c d : Candidate) (rest : List Candidate) → Rising x (c ∷ d ∷ rest) → dist x c < dist x d
unfolding Rising Beyond
next-beyond x c d rest r = r.0.0

-- ---- a start with two contacts
module _ (t own ours key : List ℕ) (limit i j : ℕ) (js id : List ℕ) (st : Started t own ours key limit) (two : nearest_slots t (sha256 key) ≡ i ∷ j ∷ js)
    (at : sha256 id ≡ (contact_at t i).place) (good : bad_step own ours id ≡ false) where
  abbrev s : Step
  s = start_of t own ours key limit

  abbrev c : Candidate
  c = contact_at t i

  abbrev d : Candidate
  d = contact_at t j

  abbrev rest : List Candidate
  rest = map (contact_at t) js

  b : Begins t key limit s
  b = begins t own ours key limit st

  start_is : s.lookup ≡ begun t key limit
  start_is = ap (λ (x : Step). x.lookup) (taken t own ours key limit st).gave ∙ settled-lookup (begun t key limit)

  lists : candidates_of s.lookup ≡ c ∷ d ∷ rest
  unfolding first_ones
  lists = ap candidates_of start_is ∙ begun-candidates t key limit ∙ ap (map (contact_at t)) two

  unturned : s.lookup.turned ≡ false
  unturned = b.room

  many : 1 < s.lookup.count
  many = omega (arith, ap length lists, length-take s.lookup.count s.lookup.candidates)

  limit_is : s.lookup.limit ≡ limit
  limit_is = b.limited.same

  limit-some : 1 ≤ limit
  limit-some = omega (arith, limit_is, (formed s.lookup b.sound.form).limit_low)

  none-fly : (ls : List ℕ) → sum_of flying_one (map (contact_at t) ls) ≡ 0
  none-fly ls = idle-weigh flying_one t (λ k. refl) ls

  flights-none : flights_of (marks_of s.lookup) ≡ 0
  flights-none = flights-sum (candidates_of s.lookup) ∙ ap (sum_of flying_one) lists ∙ none-fly (i ∷ j ∷ js)

  marks : marks_of s.lookup ≡ idle ∷ idle ∷ map mark_of rest
  marks = ap (map mark_of) lists

  -- the first is asked
  first : next_of s.lookup ≡ gives (mark 0 flying s.lookup) (Ok (Ask 0))
  first =
      next-asks s.lookup 0 b.sound.form (ap is_over marks ∙ over-two idle (idle ∷ map mark_of rest) refl refl)
      (omega (arith, flights-none, limit_is, limit-some)) (ap idle_of marks ∙ idle-first (idle ∷ map mark_of rest)) (omega (arith, many))

  abbrev l1 : Lookup
  l1 = mark 0 flying s.lookup

  sound1 : Sound (mark 0 flying s.lookup)
  sound1 = sound-mark 0 flying s.lookup (omega arith) b.sound

  lists1 : candidates_of (mark 0 flying s.lookup) ≡ with_mark flying c ∷ d ∷ rest
  unfolding mark_at
  lists1 = marked-candidates 0 flying s.lookup ∙ ap (mark_at 0 flying) lists

  ongoing1 : is_over (marks_of (mark 0 flying s.lookup)) ≡ false
  ongoing1 = ap (λ (cs : List Candidate). is_over (map mark_of cs)) lists1 ∙ over-two flying (idle ∷ map mark_of rest) refl refl

  -- a report about it
  about : whom_of (mark 0 flying s.lookup) own ours id ≡ Ok 0
  about = about-first (mark 0 flying s.lookup) own ours id c (d ∷ rest) sound1.form good ongoing1 lists1 at (omega (arith, many))

  -- with room for two, the second is next
  second : 2 ≤ limit → next_of (mark 0 flying s.lookup) ≡ gives (mark 1 flying (mark 0 flying s.lookup)) (Ok (Ask 1))
  second h =
      next-asks (mark 0 flying s.lookup) 1 sound1.form ongoing1
      (omega (arith, flights-sum (candidates_of (mark 0 flying s.lookup)), ap (sum_of flying_one) lists1, sum-cons flying_one (with_mark flying c) (d ∷ rest), one-flies, none-fly (j ∷ js), limit_is))
      (ap (λ (cs : List Candidate). idle_of (map mark_of cs)) lists1 ∙ idle-second (map mark_of rest)) many
    where
      one-flies : flying_one (with_mark flying c) ≡ 1
      one-flies = refl

  -- they lie apart, and the second was heard of
  apart : same c.place d.place ≡ false
  apart = same-no c.place d.place (λ e. nearer (ap (λ (p : List ℕ). distance p s.lookup.target) e))
    where
      up : Rising s.lookup.target (c ∷ d ∷ rest)
      up = subst (Rising s.lookup.target) lists (rising s.lookup.target (candidates_of s.lookup) (formed s.lookup b.sound.form).order)

      nearer : dist s.lookup.target c ≡ dist s.lookup.target d → ⊥
      nearer e = omega (arith, next-beyond s.lookup.target c d rest up)

  known-second : known d.place (candidates_of s.lookup) ≡ true
  known-second = in-any (lies_at d.place) (subst (In d) (sym lists) (there here)) (same_refl d.place)

  contact : is_contact t key d.place ≡ true
  contact = sym (b.contacts d.place) ∙ known-second

  -- who was heard of and hasn't failed
  heard-left : (h : List Event) → has_failed d.place h ≡ false → (heard_of t key d.place h && not (has_failed d.place h)) ≡ true
  heard-left h z =
      and_i (heard_of t key d.place h) (not (has_failed d.place h)) (or_l (is_contact t key d.place) _ contact) (not-no (has_failed d.place h) z)

  -- ---- all fail: complete, with nobody found, though the second was heard of and didn't fail
  abbrev failing : List Call
  failing = go_next ∷ go_fail own ours id ∷ []

  abbrev l2 : Lookup
  l2 = with_candidates l1 l1.count (map (with_mark failed) l1.candidates)

  none_left : twenty_of (marks_of l2) ≡ []
  unfolding twenty_of
  none_left =
      ap (λ (cs : List Candidate). take most_near (live 0 (map mark_of cs))) (take-failed l1.count l1.candidates) ∙ ap (take most_near) (none-live 0 (candidates_of l1))

  over2 : is_over (marks_of l2) ≡ true
  unfolding is_over every
  over2 = ap (every (marked answered (marks_of l2))) none_left

  failing-is : outcome all_fail s failing ≡ record { lookup = l2; found = ranks_of (twenty_of (marks_of l2)); answer = (Ok (Complete (sent_of (marks_of l2)))) }
  unfolding outcome
  failing-is =
      ap (λ (x : Step). all_fail (go_fail own ours id) x.lookup) first ∙ ap (λ (w : Result ℕ Refusal). reported l1 w (λ k. l2)) about ∙ over-complete l2 over2 unturned

  nobody-found : length (places_found (outcome all_fail s failing)) ≡ 0
  nobody-found =
      ap (λ (x : Step). length (places_found x)) failing-is
      ∙ ap (λ (l : List ℕ). length (places_found (record { lookup = l2; found = ranks_of l; answer = (Ok (Complete (sent_of (marks_of l2)))) }))) none_left

  not-failed : has_failed d.place (history all_fail s failing) ≡ false
  unfolding history any_in
  not-failed =
      or-fails (accepted (next_of s.lookup).answer && false) _ (and-fails (accepted (next_of s.lookup).answer) false refl)
      (or-fails (accepted (all_fail (go_fail own ours id) (next_of s.lookup).lookup).answer && same (sha256 id) d.place) false
      (and-fails (accepted (all_fail (go_fail own ours id) (next_of s.lookup).lookup).answer) (same (sha256 id) d.place) (ap (λ (x : List ℕ). same x d.place) at ∙ apart)) refl)

  no-failing : Claims all_fail t key limit s → ⊥
  no-failing k =
      let m : MeansComplete t key (history all_fail s failing) (outcome all_fail s failing) (sent_of (marks_of l2)) =
      k.complete failing (sent_of (marks_of l2)) (ap (λ (x : Step). x.answer) failing-is) in
      ⊎_elim (λ r. none r.1) (λ r. short r.0) (m.over.nearest.rest d.place (heard-left (history all_fail s failing) not-failed))
    where
      none : {n : ℕ} → n < length (places_found (outcome all_fail s failing)) → ⊥
      none h = omega (arith, nobody-found)

      short : length (places_found (outcome all_fail s failing)) ≡ 20 → ⊥
      short h = omega (arith, nobody-found)

  -- ---- contacts dropped: complete, with the first alone
  module _ (body : List ℕ) (v : Fields) (view : is_view body v ≡ true) (kind : eqb v.kind find_node ≡ true) (names : heard_ids body ≡ []) where
    abbrev dropping : List Call
    dropping = go_next ∷ go_reply own ours id body v ∷ []

    abbrev l3 : Lookup
    l3 = put l1 (get_or (candidates_of l1) 0 nobody ∷ [])

    abbrev l4 : Lookup
    l4 = mark 0 answered l3

    first-reply : any_in (λ (x : Candidate). eqb x.mark answered) (candidates_of l1) ≡ false
    unfolding any_in
    first-reply = ap (any_in (λ (x : Candidate). eqb x.mark answered)) lists1 ∙ none-idle t (λ (x : Candidate). eqb x.mark answered) (λ k. refl) (j ∷ js)

    heard : heard_from ours body v.kind l3 0 ≡ l4
    unfolding heard_from hear_all
    heard =
        cond_yes (eqb v.kind find_node) (hear_all ours (heard_ids body) (mark 0 answered l3)) (mark 0 failed l3) kind
        ∙ ap (λ (ids : List (List ℕ)). hear_all ours ids (mark 0 answered l3)) names

    lists4 : candidates_of l4 ≡ with_mark answered (with_mark flying c) ∷ []
    unfolding mark_at
    lists4 =
        marked-candidates 0 answered l3 ∙ ap (mark_at 0 answered) (put-candidates l1 (get_or (candidates_of l1) 0 nobody ∷ []))
        ∙ ap (λ (l : List Candidate). with_mark answered (get_or l 0 nobody) ∷ []) lists1

    over4 : is_over (marks_of l4) ≡ true
    unfolding is_over every twenty_of live
    over4 = ap (λ (cs : List Candidate). is_over (map mark_of cs)) lists4

    dropping-is : outcome drops_contacts s dropping ≡ record { lookup = l4; found = ranks_of (twenty_of (marks_of l4)); answer = (Ok (Complete (sent_of (marks_of l4)))) }
    unfolding outcome
    dropping-is =
        ap (λ (x : Step). drops_contacts (go_reply own ours id body v) x.lookup) first
        ∙ cond_no (any_in (λ (x : Candidate). eqb x.mark answered) (candidates_of l1)) _ _ first-reply ∙ cond_yes (is_view body v) _ _ view
        ∙ ap (λ (w : Result ℕ Refusal). reported l1 w (λ k. heard_from ours body v.kind (put l1 (get_or (candidates_of l1) k nobody ∷ [])) 0)) about
        ∙ ap settled heard ∙ over-complete l4 over4 unturned

    one_found : places_found (outcome drops_contacts s dropping) ≡ c.place ∷ []
    unfolding twenty_of live
    one_found =
        ap places_found dropping-is
        ∙ ap (λ (cs : List Candidate). map (λ r. (get_or cs r nobody).place) (take (ranks_of (twenty_of (map mark_of cs))).n (ranks_of (twenty_of (map mark_of cs))).at)) lists4

    not-failed-either : has_failed d.place (history drops_contacts s dropping) ≡ false
    unfolding history any_in
    not-failed-either =
        or-fails (accepted (next_of s.lookup).answer && false) _ (and-fails (accepted (next_of s.lookup).answer) false refl)
        (or-fails (accepted (drops_contacts (go_reply own ours id body v) (next_of s.lookup).lookup).answer && (not (eqb v.kind find_node) && same (sha256 id) d.place)) false
        (and-fails (accepted (drops_contacts (go_reply own ours id body v) (next_of s.lookup).lookup).answer) (not (eqb v.kind find_node) && same (sha256 id) d.place)
        (and-off (not (eqb v.kind find_node)) (same (sha256 id) d.place) (not_yes (eqb v.kind find_node) kind))) refl)

    no-dropping : Claims drops_contacts t key limit s → ⊥
    no-dropping k =
        let m : MeansComplete t key (history drops_contacts s dropping) (outcome drops_contacts s dropping) (sent_of (marks_of l4)) =
        k.complete dropping (sent_of (marks_of l4)) (ap (λ (x : Step). x.answer) dropping-is) in
        let n : TwentyNearest (λ p. heard_of t key p (history drops_contacts s dropping) && not (has_failed p (history drops_contacts s dropping))) (sha256 key) (c.place ∷ []) =
        subst (TwentyNearest (λ p. heard_of t key p (history drops_contacts s dropping) && not (has_failed p (history drops_contacts s dropping))) (sha256 key)) one_found m.over.nearest in
        ⊎_elim (λ r. other r.0 r.1 r.2) (λ r. short r.0) (n.rest d.place (heard-left (history drops_contacts s dropping) not-failed-either))
      where
        other : (n : ℕ) → n < 1 → get_or (c.place ∷ []) n [] ≡ d.place → ⊥
        other zero h e = not-both (same c.place d.place) (same-yes c.place d.place e) apart
        other (suc n) h e = omega arith

        short : length (c.place ∷ []) ≡ 20 → ⊥
        short e = omega arith

  -- ---- one of two asked: the second is in flight, and nobody asked it
  module _ (wide : 2 ≤ limit) where
    abbrev asking : List Call
    asking = go_next ∷ []

    lists5 : candidates_of (outcome asks_one_of_two s asking).lookup ≡ with_mark flying c ∷ with_mark flying d ∷ rest
    unfolding outcome mark_at
    lists5 =
        ap (λ (x : Step). candidates_of (next_of x.lookup).lookup) first ∙ ap (λ (x : Step). candidates_of x.lookup) (second wide)
        ∙ marked-candidates 1 flying l1 ∙ ap (mark_at 1 flying) lists1

    unasked : has_been_asked d.place (history asks_one_of_two s asking) ≡ false
    unfolding history any_in outcome
    unasked =
        or-fails _ false
        (ap (λ (x : Step). asks_for d.place (candidates_of (outcome asks_one_of_two s asking).lookup) x.answer) first
        ∙ ap (λ (l : List Candidate). lies_at d.place (get_or l 0 nobody)) lists5 ∙ apart) refl

    quiet : (accepted (next_of s.lookup).answer && false || false) ≡ false
    quiet = or-fails (accepted (next_of s.lookup).answer && false) false (and-fails (accepted (next_of s.lookup).answer) false refl) refl

    by-history : mark_by d.place (history asks_one_of_two s asking) ≡ idle
    unfolding history any_in
    by-history =
        cond_no (has_failed d.place (history asks_one_of_two s asking)) failed _ quiet ∙ cond_no (has_answered d.place (history asks_one_of_two s asking)) answered _ quiet
        ∙ cond_no (has_been_asked d.place (history asks_one_of_two s asking)) flying idle unasked

    no-hiding : Claims asks_one_of_two t key limit s → ⊥
    no-hiding k =
        let e : flying ≡ mark_by d.place (history asks_one_of_two s asking) =
        subst (λ (l : List Candidate). 1 < length l → (get_or l 1 nobody).mark ≡ mark_by (get_or l 1 nobody).place (history asks_one_of_two s asking)) lists5 (k.marks asking 1) (omega arith) in
        bad (e ∙ by-history)
      where
        bad : flying ≡ idle → ⊥
        bad z = omega arith

pub no-fake : NoFake
no-fake t own ours key limit i j js id st two at good =
    record {
      failing = no-failing t own ours key limit i j js id st two at good;
      dropping = λ body v view kind names. no-dropping t own ours key limit i j js id st two at good body v view (eq-eqb v.kind find_node kind) names;
      hiding = no-hiding t own ours key limit i j js id st two at good;
    }
