-- Laws of the steps: each answer, from the tests that lead there. Assumes nothing.
use Prim.Native.Nat.{ℕ, ◌+◌, ◌≤◌, ◌<◌}
use mathlib.Core.Path.{◌≡◌, refl, sym, ap, ap₂, ◌∙◌, subst}
use mathlib.Core.Bool.{Bool, true, false, not}
use mathlib.Core.List.{List, ◌∷◌, ◌++◌, map}
use native.Mathlib.Omega.{arith}
use lib.Dec.{leb, ltb}
use lib.ListN.{length, take, drop, length-map}
use lib.Seq.{length-take-le}
use borrow.Author.Tests.{lt-ltb, le-ltb, le-leb, lt-leb, not-false, leb-false}
use Rattle.octets.specs.Octets.{same}
use Rattle.octets.proofs.Bools.{cond_yes, cond_no, cond_ind, or_l, or_off, or_r}
use Rattle.place.specs.Place.{place_of}
use Rattle.peer.specs.Peers.{bad_peer}
use Rattle.sha256.specs.Sha256.{sha256}
use Rattle.refusal.specs.declared.Refusal.{Refusal}
use Rattle.refusal.specs.declared.Refusal.TheVariants.{OutOfForm, BadPeer, NotInFlight, LookupOver}
use Rattle.lookup_marks.specs.Marks.{flying, failed, twenty_of, is_over, idle_of, flights_of, sent_of, ranks_of}
use Rattle.lookup_marks.specs.declared.Ranks.{Ranks}
use Rattle.lookup.specs.Inner.{rank_of}
use Rattle.lookup.specs.Lookup.{room, candidates_of, marks_of, in_form, with_candidates, turn_away, put, mark, gives, refuses, ends, settled, next_of, bad_step, flyer_of, whom_of, reported, failure_of, known, enter, meet}
use Rattle.lookup_candidates.specs.Candidates.{mark_of, id_fits}
use Rattle.lookup_candidates.specs.declared.Candidate.{Candidate}
use Rattle.lookup.specs.Value.{Lookup, Step}
use Rattle.lookup.specs.declared.Answer.{Answer}
use Rattle.lookup.specs.declared.Answer.TheVariants.{Complete, CutShort, Wait, Ask, Going}
use Rattle.octets.proofs.Lists.{map-take}
use Rattle.lookup.proofs.Form.{formed}
use Rattle.lookup.proofs.Scans.{put-enter}
use Rattle.std.specs.Prelude.{Ok, Err, Result}

-- ---- marks
pub marks-part : (l : Lookup) (ms : List ℕ) → ms ≡ map mark_of l.candidates → take l.count ms ≡ marks_of l
marks-part l ms e = ap (take l.count) e ∙ map-take mark_of l.count l.candidates

pub marks-count : (l : Lookup) (ms : List ℕ) → ms ≡ map mark_of l.candidates → length l.candidates ≡ 256 → l.count ≤ 256 → l.count ≡ length (take l.count ms)
marks-count l ms e hl h = sym (length-take-le l.count ms (omega (arith, ap length e, length-map l.candidates mark_of)))

-- ---- over or going: the lookup stays as it is
pub settled-lookup : (l : Lookup) → (settled l).lookup ≡ l
unfolding settled
settled-lookup l = cond_ind (λ (s : Step). s.lookup ≡ l) (is_over (marks_of l)) (ends l) (gives l (Ok Going)) (λ e. refl) (λ e. refl)

-- ---- the answer of a lookup that is over
abbrev pub step_of : Lookup → Ranks → Result Answer Refusal → Step
step_of l f a = record { lookup = l; found = f; answer = a }

module _ (l : Lookup) (ms : List ℕ) (f : Ranks) (s : ℕ) (em : ms ≡ marks_of l) (ef : f ≡ ranks_of (twenty_of ms)) (es : s ≡ sent_of ms) where
  found : f ≡ ranks_of (twenty_of (marks_of l))
  found = ef ∙ ap (λ (x : List ℕ). ranks_of (twenty_of x)) em

  sent : s ≡ sent_of (marks_of l)
  sent = es ∙ ap sent_of em

  pub end-cut : l.turned ≡ true → step_of l f (Ok (CutShort s)) ≡ ends l
  end-cut t =
      ap₂ (λ (x : Ranks) (y : ℕ). step_of l x (Ok (CutShort y))) found sent
      ∙ sym (ap (λ (a : Result Answer Refusal). step_of l (ranks_of (twenty_of (marks_of l))) a) (cond_yes l.turned ((Ok (CutShort (sent_of (marks_of l))))) ((Ok (Complete (sent_of (marks_of l))))) t))

  pub end_whole : l.turned ≡ false → step_of l f (Ok (Complete s)) ≡ ends l
  end_whole t =
      ap₂ (λ (x : Ranks) (y : ℕ). step_of l x (Ok (Complete y))) found sent
      ∙ sym (ap (λ (a : Result Answer Refusal). step_of l (ranks_of (twenty_of (marks_of l))) a) (cond_no l.turned ((Ok (CutShort (sent_of (marks_of l))))) ((Ok (Complete (sent_of (marks_of l))))) t))

-- ---- over or going
module _ (l : Lookup) (ms : List ℕ) (em : ms ≡ marks_of l) (o : Bool) (eo : o ≡ is_over ms) (r : Step) where
  is-over : o ≡ is_over (marks_of l)
  is-over = eo ∙ ap is_over em

  pub settle-over : o ≡ true → r ≡ ends l → r ≡ settled l
  unfolding settled
  settle-over t e = e ∙ sym (cond_yes (is_over (marks_of l)) (ends l) (gives l (Ok Going)) (sym is-over ∙ t))

  pub settle-going : o ≡ false → r ≡ gives l (Ok Going) → r ≡ settled l
  unfolding settled
  settle-going t e = e ∙ sym (cond_no (is_over (marks_of l)) (ends l) (gives l (Ok Going)) (sym is-over ∙ t))

-- ---- next
module _ (l : Lookup) (b : Bool) (eb : b ≡ in_form l) (r : Step) where
  pub next-bad : not b ≡ true → r ≡ refuses l OutOfForm → r ≡ next_of l
  unfolding next_of
  next-bad h e = e ∙ sym (cond_yes (not (in_form l)) (refuses l OutOfForm) _ (ap not (sym eb) ∙ h))

  module _ (h : not b ≡ false) (ms : List ℕ) (em : ms ≡ marks_of l) (o : Bool) (eo : o ≡ is_over ms) where
    in-form : not (in_form l) ≡ false
    in-form = ap not (sym eb) ∙ h

    over : o ≡ is_over (marks_of l)
    over = eo ∙ ap is_over em

    pub next-over : o ≡ true → r ≡ ends l → r ≡ next_of l
    unfolding next_of
    next-over t e = e ∙ sym (cond_no (not (in_form l)) (refuses l OutOfForm) _ in-form ∙ cond_yes (is_over (marks_of l)) (ends l) _ (sym over ∙ t))

    module _ (t : o ≡ false) (f : ℕ) (ef : f ≡ flights_of ms) where
      flights : f ≡ flights_of (marks_of l)
      flights = ef ∙ ap flights_of em

      full : (x : Bool) → leb l.limit f ≡ x → leb l.limit (flights_of (marks_of l)) ≡ x
      full x e = ap (leb l.limit) (sym flights) ∙ e

      pub next-full : l.limit ≤ f → r ≡ gives l (Ok Wait) → r ≡ next_of l
      unfolding next_of
      next-full g e =
          e ∙ sym (cond_no (not (in_form l)) (refuses l OutOfForm) _ in-form ∙ cond_no (is_over (marks_of l)) (ends l) _ (sym over ∙ t)
          ∙ cond_yes (leb l.limit (flights_of (marks_of l))) (gives l (Ok Wait)) _ (full true (le-leb l.limit f g)))

      module _ (g : f < l.limit) (i : ℕ) (ei : i ≡ idle_of ms) where
        nearest : i ≡ idle_of (marks_of l)
        nearest = ei ∙ ap idle_of em

        pub next-ask : (k : Lookup) → i < l.count → k ≡ mark i flying l → r ≡ gives k (Ok (Ask i)) → r ≡ next_of l
        unfolding next_of
        next-ask k z ek e =
            e ∙ ap (λ (x : Lookup). gives x (Ok (Ask i))) ek ∙ ap (λ (j : ℕ). gives (mark j flying l) (Ok (Ask j))) nearest
            ∙ sym (cond_no (not (in_form l)) (refuses l OutOfForm) _ in-form ∙ cond_no (is_over (marks_of l)) (ends l) _ (sym over ∙ t)
            ∙ cond_no (leb l.limit (flights_of (marks_of l))) (gives l (Ok Wait)) _ (full false (lt-leb l.limit f g))
            ∙ cond_yes (ltb (idle_of (marks_of l)) l.count) (gives (mark (idle_of (marks_of l)) flying l) ((Ok (Ask (idle_of (marks_of l)))))) (gives l (Ok Wait))
            (ap (λ (j : ℕ). ltb j l.count) (sym nearest) ∙ lt-ltb i l.count z))

        pub next-wait : l.count ≤ i → r ≡ gives l (Ok Wait) → r ≡ next_of l
        unfolding next_of
        next-wait z e =
            e ∙ sym (cond_no (not (in_form l)) (refuses l OutOfForm) _ in-form ∙ cond_no (is_over (marks_of l)) (ends l) _ (sym over ∙ t)
            ∙ cond_no (leb l.limit (flights_of (marks_of l))) (gives l (Ok Wait)) _ (full false (lt-leb l.limit f g))
            ∙ cond_no (ltb (idle_of (marks_of l)) l.count) (gives (mark (idle_of (marks_of l)) flying l) ((Ok (Ask (idle_of (marks_of l)))))) (gives l (Ok Wait))
            (ap (λ (j : ℕ). ltb j l.count) (sym nearest) ∙ le-ltb i l.count z))

-- ---- ids and peers
module _ (own ours id : List ℕ) (a : Bool) (ea : a ≡ id_fits own) where
  pub bad-own : not a ≡ true → bad_step own ours id ≡ true
  unfolding bad_step bad_peer place_of
  bad-own h = or_l (not (id_fits own)) _ (ap not (sym ea) ∙ h)

  module _ (h : not a ≡ false) (b : Bool) (eb : b ≡ id_fits id) where
    pub bad-id : not b ≡ true → bad_step own ours id ≡ true
    unfolding bad_step bad_peer place_of
    bad-id g = or_r (not (id_fits own)) _ (or_l (not (id_fits id)) _ (ap not (sym eb) ∙ g))

    module _ (g : not b ≡ false) (p : List ℕ) (s : Bool) (ep : p ≡ sha256 id) (es : s ≡ same p ours) where
      pub bad-place : s ≡ true → bad_step own ours id ≡ true
      unfolding bad_step bad_peer place_of
      bad-place t = or_r (not (id_fits own)) _ (or_r (not (id_fits id)) _ (sym (es ∙ ap (λ (x : List ℕ). same x ours) ep) ∙ t))

      pub good-peer : s ≡ false → bad_step own ours id ≡ false
      unfolding bad_step bad_peer place_of
      good-peer t =
          or_off (not (id_fits own)) _ (ap not (sym ea) ∙ h) ∙ or_off (not (id_fits id)) _ (ap not (sym eb) ∙ g)
          ∙ sym (es ∙ ap (λ (x : List ℕ). same x ours) ep) ∙ t

-- ---- whom a report is about
module _ (l : Lookup) (own ours id : List ℕ) (b : Bool) (eb : b ≡ in_form l) where
  pub whom-form : not b ≡ true → Err OutOfForm ≡ whom_of l own ours id
  unfolding whom_of
  whom-form h = sym (cond_yes (not (in_form l)) (Err OutOfForm) _ (ap not (sym eb) ∙ h))

  module _ (h : not b ≡ false) where
    formedness : not (in_form l) ≡ false
    formedness = ap not (sym eb) ∙ h

    pub whom-bad : bad_step own ours id ≡ true → Err BadPeer ≡ whom_of l own ours id
    unfolding whom_of
    whom-bad t = sym (cond_no (not (in_form l)) (Err OutOfForm) _ formedness ∙ cond_yes (bad_step own ours id) (Err BadPeer) _ t)

    module _ (t : bad_step own ours id ≡ false) (ms : List ℕ) (em : ms ≡ marks_of l) (o : Bool) (eo : o ≡ is_over ms) where
      ended : o ≡ is_over (marks_of l)
      ended = eo ∙ ap is_over em

      pub whom-over : o ≡ true → Err LookupOver ≡ whom_of l own ours id
      unfolding whom_of
      whom-over w =
          sym (cond_no (not (in_form l)) (Err OutOfForm) _ formedness ∙ cond_no (bad_step own ours id) (Err BadPeer) _ t
          ∙ cond_yes (is_over (marks_of l)) (Err LookupOver) _ (sym ended ∙ w))

      module _ (w : o ≡ false) (p : List ℕ) (ep : p ≡ sha256 id) (i : ℕ) (ei : i ≡ flyer_of p (candidates_of l)) where
        flyer : i ≡ flyer_of (sha256 id) (candidates_of l)
        flyer = ei ∙ ap (λ (x : List ℕ). flyer_of x (candidates_of l)) ep

        pub whom-none : l.count ≤ i → Err NotInFlight ≡ whom_of l own ours id
        unfolding whom_of
        whom-none z =
            sym (cond_no (not (in_form l)) (Err OutOfForm) _ formedness ∙ cond_no (bad_step own ours id) (Err BadPeer) _ t
            ∙ cond_no (is_over (marks_of l)) (Err LookupOver) _ (sym ended ∙ w)
            ∙ cond_yes (leb l.count (flyer_of (sha256 id) (candidates_of l))) (Err NotInFlight) _ (ap (leb l.count) (sym flyer) ∙ le-leb l.count i z))

        pub whom-at : i < l.count → Ok i ≡ whom_of l own ours id
        unfolding whom_of
        whom-at z =
            ap Ok flyer
            ∙ sym (cond_no (not (in_form l)) (Err OutOfForm) _ formedness ∙ cond_no (bad_step own ours id) (Err BadPeer) _ t
            ∙ cond_no (is_over (marks_of l)) (Err LookupOver) _ (sym ended ∙ w)
            ∙ cond_no (leb l.count (flyer_of (sha256 id) (candidates_of l))) (Err NotInFlight) (Ok (flyer_of (sha256 id) (candidates_of l))) (ap (leb l.count) (sym flyer) ∙ lt-leb l.count i z))

-- who is found stands in the array
abbrev Within : Lookup → Result ℕ Refusal → Type 0
Within l (Err r) = Unit {0}
Within l (Ok i) = (i < l.count) × (l.count ≤ room)

within : (l : Lookup) (own ours id : List ℕ) → Within l (whom_of l own ours id)
unfolding whom_of
within l own ours id =
    cond_ind (Within l) (not (in_form l)) _ _ (λ e. tt)
    (λ f. cond_ind (Within l) (bad_step own ours id) _ _ (λ e. tt)
    (λ b. cond_ind (Within l) (is_over (marks_of l)) _ _ (λ e. tt)
    (λ o. cond_ind (Within l) (leb l.count (flyer_of (sha256 id) (candidates_of l))) _ _ (λ e. tt)
    (λ e. (leb-false l.count (flyer_of (sha256 id) (candidates_of l)) e, (formed l (not-false (in_form l) f)).fits)))))

pub found_within : (l : Lookup) (own ours id : List ℕ) (w : Result ℕ Refusal) (i : ℕ) → w ≡ whom_of l own ours id → w ≡ Ok i → (i < l.count) × (l.count ≤ room)
found_within l own ours id w i e q = subst (Within l) (sym e ∙ q) (within l own ours id)

-- ---- failure
module _ (l : Lookup) (own ours id : List ℕ) (w : Result ℕ Refusal) (ew : w ≡ whom_of l own ours id) (s : Step) where
  pub fail-refused : (r : Refusal) → w ≡ Err r → s ≡ refuses l r → s ≡ failure_of l own ours id
  unfolding failure_of
  fail-refused r q e = e ∙ ap (λ (x : Result ℕ Refusal). reported l x (λ i. mark i failed l)) (sym q ∙ ew)

  pub fail-at : (i : ℕ) (k : Lookup) → w ≡ Ok i → k ≡ mark i failed l → s ≡ settled k → s ≡ failure_of l own ours id
  unfolding failure_of
  fail-at i k q ek e = e ∙ ap settled ek ∙ ap (λ (x : Result ℕ Refusal). reported l x (λ i. mark i failed l)) (sym q ∙ ew)

-- ---- hearing of a peer
module _ (c : Candidate) (l : Lookup) (b : Bool) (eb : b ≡ known c.place (candidates_of l)) where
  pub meet-known : b ≡ true → l ≡ meet c l
  unfolding meet
  meet-known t = sym (cond_yes (known c.place (candidates_of l)) l _ (sym eb ∙ t))

  module _ (t : b ≡ false) where
    pub meet-new : (r : ℕ) (k : Lookup) → l.count < room → length l.candidates ≡ 256 → r ≡ rank_of l.target c.place (candidates_of l)
        → k ≡ with_candidates l (l.count + 1) (take r l.candidates ++ (c ∷ (drop r (candidates_of l) ++ drop (l.count + 1) l.candidates)))
        → k ≡ meet c l
    unfolding meet
    meet-new r k h hl er ek =
        ek ∙ put-enter l c r h hl er
        ∙ sym (cond_no (known c.place (candidates_of l)) l _ (sym eb ∙ t)
        ∙ cond_yes (ltb l.count room) (put l (enter l.target c (candidates_of l))) (turn_away l) (lt-ltb l.count room h))

    pub meet-full : room ≤ l.count → turn_away l ≡ meet c l
    unfolding meet
    meet-full h =
        sym (cond_no (known c.place (candidates_of l)) l _ (sym eb ∙ t)
        ∙ cond_no (ltb l.count room) (put l (enter l.target c (candidates_of l))) (turn_away l) (le-ltb l.count room h))
