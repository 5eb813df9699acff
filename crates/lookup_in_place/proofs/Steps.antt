-- Laws of the steps: what is said of the lookup that the bytes stand for, from what was read. Assumes nothing.
use Prim.Native.Nat.{ℕ, ◌+◌, ◌≤◌, ◌<◌}
use mathlib.Core.Path.{◌≡◌, refl, sym, ap, ◌∙◌, subst}
use mathlib.Core.Bool.{Bool, true, false, cond, not}
use mathlib.Core.List.{List, map}
use native.Mathlib.Omega.{arith}
use lib.Dec.{leb, ltb}
use lib.ListN.{length, get_or, take}
use lib.Seq.{sets}
use borrow.Author.Tests.{lt-ltb, le-ltb, ltb-true, not-false}
use Rattle.octets.proofs.Bools.{cond_yes, cond_no, cond_ind}
use Rattle.limits.specs.Limits.{most_key}
use Rattle.refusal.specs.declared.Refusal.{Refusal}
use Rattle.refusal.specs.declared.Refusal.TheVariants.{OutOfForm, NotInFlight}
use Rattle.sha256.specs.Sha256.{sha256}
use Rattle.lookup_marks.specs.Marks.{flying, answered, failed, is_over, idle_of, flights_of, sent_of}
use Rattle.lookup_candidates.specs.Candidates.{mark_of, arrival_of}
use Rattle.octets.specs.Octets.{part}
use Rattle.message.specs.View.{heard_at, ids_of}
use Rattle.message.specs.declared.Ids.{Ids}
use Rattle.message.specs.declared.Fields.{Fields}
use Rattle.parts.specs.Parts.{is_view}
use Rattle.place.specs.Place.{nearer_to}
use Rattle.lookup_candidates.specs.declared.Candidate.{Candidate}
use Rattle.lookup.specs.Inner.{beyond, rank_of}
use Rattle.lookup.specs.Value.{Lookup, Step}
use Rattle.lookup.specs.declared.Answer.{Answer}
use Rattle.lookup.specs.declared.Answer.TheVariants.{Complete, CutShort, Wait, Ask, Going}
use Rattle.message.specs.Kinds.{find_node}
use Rattle.lookup.specs.Lookup.{room, limit_most, candidates_of, marks_of, nearest_first, in_form, mark, refuses, gives, ends, settled, next_of, bad_step, flyer_of, whom_of, failure_of, turn_away, known, meet, hear, hear_all, heard_ids, heard_from, reply_of}
use Rattle.lookup.proofs.Form.{formed, form-size-low, form-size-high, form-limit-low, form-limit-high, form-count, form-rest}
use Rattle.lookup.proofs.Steps.{marks-part, marks-count, next-full, next-ask, next-wait, whom-none, whom-at, fail-refused, fail-at, meet-known, meet-new, meet-full}
use Rattle.lookup.proofs.Hearing.{Heard, heard-start, heard-one, heard_all, from_found, from-other, found-fits, reply-bad, reply-refused, reply-at}
use Rattle.lookup.proofs.Arriving.{hear-nobody, hear-someone}
use Rattle.flat_lookup.specs.FlatLookup.{flat_size, lookup_in, lookup_bytes}
use Rattle.lookup_in_place.specs.declared.Outcome.{Outcome}
use Rattle.lookup_in_place.specs.InPlace.{answers, outcome_of, is_refused, step_memory, step_in, failure_in, reply_in}
use Rattle.lookup_in_place.specs.Inner.{asked_of, joined, Becomes}
use Rattle.lookup_in_place.proofs.Parts.{all_there}
use Rattle.lookup_in_place.proofs.Whole.{becomes-nothing}
use Rattle.std.specs.Prelude.{Ok, Err, Result}

-- ---- form, by the numbers that were read
module _ (m : List ℕ) (size limit n : ℕ) (es : size ≡ (lookup_in m).size) (el : limit ≡ (lookup_in m).limit) (en : n ≡ (lookup_in m).count) where
  pub no_key : size < 1 → false ≡ in_form (lookup_in m)
  no_key h = form-size-low (lookup_in m) (subst (λ (x : ℕ). x < 1) es h)

  module _ (a : 1 ≤ size) where
    key-there : 1 ≤ (lookup_in m).size
    key-there = subst (λ (x : ℕ). 1 ≤ x) es a

    pub long-key : most_key < size → false ≡ in_form (lookup_in m)
    long-key h = form-size-high (lookup_in m) key-there (subst (λ (x : ℕ). most_key < x) es h)

    module _ (b : size ≤ most_key) where
      key-most : (lookup_in m).size ≤ most_key
      key-most = subst (λ (x : ℕ). x ≤ most_key) es b

      pub no-limit : limit < 1 → false ≡ in_form (lookup_in m)
      no-limit h = form-limit-low (lookup_in m) key-there key-most (subst (λ (x : ℕ). x < 1) el h)

      module _ (c : 1 ≤ limit) where
        limit-there : 1 ≤ (lookup_in m).limit
        limit-there = subst (λ (x : ℕ). 1 ≤ x) el c

        pub high-limit : limit_most < limit → false ≡ in_form (lookup_in m)
        high-limit h = form-limit-high (lookup_in m) key-there key-most limit-there (subst (λ (x : ℕ). limit_most < x) el h)

        module _ (d : limit ≤ limit_most) where
          limit-most : (lookup_in m).limit ≤ limit_most
          limit-most = subst (λ (x : ℕ). x ≤ limit_most) el d

          pub too_many : room < n → false ≡ in_form (lookup_in m)
          too_many h = form-count (lookup_in m) key-there key-most limit-there limit-most (subst (λ (x : ℕ). room < x) en h)

          pub in-order-then : (b : Bool) → n ≤ room → b ≡ nearest_first (lookup_in m).target (take n (lookup_in m).candidates) → b ≡ in_form (lookup_in m)
          in-order-then b h e =
              e ∙ ap (λ (k : ℕ). nearest_first (lookup_in m).target (take k (lookup_in m).candidates)) en
              ∙ form-rest (lookup_in m) key-there key-most limit-there limit-most (subst (λ (x : ℕ). x ≤ room) en h)

-- ---- the marks of the candidates
module _ (m ms : List ℕ) (n : ℕ) (en : n ≡ (lookup_in m).count) (em : ms ≡ map mark_of (lookup_in m).candidates) where
  pub marks-held : take n ms ≡ marks_of (lookup_in m)
  marks-held = ap (λ (k : ℕ). take k ms) en ∙ marks-part (lookup_in m) ms em

  pub held-count : n ≤ 256 → n ≡ length (take n ms)
  held-count h = en ∙ marks-count (lookup_in m) ms em (all_there m) (subst (λ (x : ℕ). x ≤ 256) en h) ∙ ap (λ (k : ℕ). length (take k ms)) (sym en)

-- a lookup in form has its candidates in the array
pub room_in : (m : List ℕ) (b : Bool) (n : ℕ) → b ≡ in_form (lookup_in m) → not b ≡ false → n ≡ (lookup_in m).count → n ≤ 256
room_in m b n e h en = subst (λ (x : ℕ). x ≤ 256) (sym en) (formed (lookup_in m) (sym e ∙ not-false b h)).fits

-- ---- next
module _ (m ms : List ℕ) (b o : Bool) (n limit f : ℕ) (eb : b ≡ in_form (lookup_in m)) (h : not b ≡ false) (en : n ≡ (lookup_in m).count) (em : ms ≡ marks_of (lookup_in m))
    (eo : o ≡ is_over ms) (t : o ≡ false) (el : limit ≡ (lookup_in m).limit) (ef : f ≡ flights_of ms) where
  pub next-full-in : limit ≤ f → answers (Ok Wait) ≡ outcome_of (next_of (lookup_in m))
  next-full-in g =
      ap outcome_of (next-full (lookup_in m) b eb (gives (lookup_in m) (Ok Wait)) h ms em o eo t f ef (subst (λ (x : ℕ). x ≤ f) el g) refl)

  module _ (g : f < limit) (i : ℕ) (ei : i ≡ idle_of ms) where
    few : f < (lookup_in m).limit
    few = subst (λ (x : ℕ). f < x) el g

    pub next-ask-in : i < n → answers (Ok (Ask i)) ≡ outcome_of (next_of (lookup_in m))
    next-ask-in z =
        ap outcome_of (next-ask (lookup_in m) b eb (gives (mark i flying (lookup_in m)) (Ok (Ask i))) h ms em o eo t f ef few i ei (mark i flying (lookup_in m)) (subst (λ (x : ℕ). i < x) en z) refl refl)

    pub next-wait-in : n ≤ i → answers (Ok Wait) ≡ outcome_of (next_of (lookup_in m))
    next-wait-in z = ap outcome_of (next-wait (lookup_in m) b eb (gives (lookup_in m) (Ok Wait)) h ms em o eo t f ef few i ei (subst (λ (x : ℕ). x ≤ i) en z) refl)

-- ---- whom a report is about
module _ (m own ours id : List ℕ) (b : Bool) (eb : b ≡ in_form (lookup_in m)) (h : not b ≡ false) (t : bad_step own ours id ≡ false) (ms : List ℕ) (n : ℕ)
    (en : n ≡ (lookup_in m).count) (em : ms ≡ marks_of (lookup_in m)) (o : Bool) (eo : o ≡ is_over ms) (w : o ≡ false) (p : List ℕ) (ep : p ≡ sha256 id) (i : ℕ)
    (ei : i ≡ flyer_of p (take n (lookup_in m).candidates)) where
  flyer-in : i ≡ flyer_of p (candidates_of (lookup_in m))
  flyer-in = ei ∙ ap (λ (k : ℕ). flyer_of p (take k (lookup_in m).candidates)) en

  pub whom-none-in : n ≤ i → Err NotInFlight ≡ whom_of (lookup_in m) own ours id
  whom-none-in z = whom-none (lookup_in m) own ours id b eb h t ms em o eo w p ep i flyer-in (subst (λ (x : ℕ). x ≤ i) en z)

  pub whom-at-in : i < n → Ok i ≡ whom_of (lookup_in m) own ours id
  whom-at-in z = whom-at (lookup_in m) own ours id b eb h t ms em o eo w p ep i flyer-in (subst (λ (x : ℕ). i < x) en z)

-- ---- what a next step leaves, by its answer
record Left (l : Lookup) (s : Step) : Type 0 where
  is : s.lookup ≡ cond (ltb (asked_of s.answer) room) (mark (asked_of s.answer) flying l) l

next-left : (l : Lookup) → Left l (next_of l)
unfolding next_of
next-left l =
    let i : ℕ = idle_of (marks_of l) in
    let asks : Step = cond (ltb i l.count) (gives (mark i flying l) (Ok (Ask i))) (gives l (Ok Wait)) in
    let goes : Step = cond (leb l.limit (flights_of (marks_of l))) (gives l (Ok Wait)) asks in
    cond_ind (Left l) (not (in_form l)) (refuses l OutOfForm) (cond (is_over (marks_of l)) (ends l) goes) (λ e. record { is = refl })
    (λ f. cond_ind (Left l) (is_over (marks_of l)) (ends l) goes (λ e. record { is = over-left })
    (λ o. cond_ind (Left l) (leb l.limit (flights_of (marks_of l))) (gives l (Ok Wait)) asks (λ e. record { is = refl })
    (λ g. cond_ind (Left l) (ltb i l.count) (gives (mark i flying l) (Ok (Ask i))) (gives l (Ok Wait))
    (λ e. asked-left i (omega (arith, ltb-true i l.count e, (formed l (not-false (in_form l) f)).fits)))
    (λ e. record { is = refl }))))
  where
    over-left : l ≡ cond (ltb (asked_of (ends l).answer) room) (mark (asked_of (ends l).answer) flying l) l
    over-left =
        cond_ind (λ (a : Result Answer Refusal). l ≡ cond (ltb (asked_of a) room) (mark (asked_of a) flying l) l) l.turned ((Ok (CutShort (sent_of (marks_of l))))) ((Ok (Complete (sent_of (marks_of l)))))
        (λ e. refl) (λ e. refl)

    asked-left : (i : ℕ) → i < room → Left l (gives (mark i flying l) (Ok (Ask i)))
    asked-left i h = record { is = sym (cond_yes (ltb i room) (mark i flying l) l (lt-ltb i room h)) }

module _ (m m' : List ℕ) (a : Result Answer Refusal) (ea : a ≡ (next_of (lookup_in m)).answer) where
  module _ (b : Bool) (e : b ≡ is_refused a) (h : b ≡ false) (i : ℕ) (ei : i ≡ asked_of a) where
    kept : sets m 0 (lookup_bytes (cond (ltb i room) (mark i flying (lookup_in m)) (lookup_in m))) ≡ step_memory m (next_of (lookup_in m))
    kept =
        ap (λ (j : ℕ). sets m 0 (lookup_bytes (cond (ltb j room) (mark j flying (lookup_in m)) (lookup_in m)))) (ei ∙ ap asked_of ea)
        ∙ ap (λ (x : Lookup). sets m 0 (lookup_bytes x)) (sym (next-left (lookup_in m)).is)
        ∙ sym (cond_no (is_refused (next_of (lookup_in m)).answer) m _ (ap is_refused (sym ea) ∙ sym e ∙ h))

    pub next-asked : i < room → m' ≡ sets m 0 (lookup_bytes (mark i flying (lookup_in m))) → m' ≡ step_memory m (next_of (lookup_in m))
    next-asked g q = q ∙ ap (λ (x : Lookup). sets m 0 (lookup_bytes x)) (sym (cond_yes (ltb i room) (mark i flying (lookup_in m)) (lookup_in m) (lt-ltb i room g))) ∙ kept

    pub next-stayed : room ≤ i → m' ≡ sets m 0 (lookup_bytes (lookup_in m)) → m' ≡ step_memory m (next_of (lookup_in m))
    next-stayed g q = q ∙ ap (λ (x : Lookup). sets m 0 (lookup_bytes x)) (sym (cond_no (ltb i room) (mark i flying (lookup_in m)) (lookup_in m) (le-ltb i room g))) ∙ kept

-- ---- a whole step
-- what is said, and what is left, of the step s
abbrev pub Both : Step → List ℕ → List ℕ → Outcome → Type 0
Both s m m' o = (o ≡ outcome_of s) × (m' ≡ step_memory m s)

pub short-step : (m : List ℕ) (s : Step) (o : Outcome) → length m < flat_size → o ≡ answers (Err OutOfForm) → Both (step_in m s) m m o
short-step m s o h e =
    subst (λ (x : Step). Both x m m o) (sym (cond_yes (ltb (length m) flat_size) (refuses (lookup_in m) OutOfForm) s (lt-ltb (length m) flat_size h))) (e, refl)

pub long-step : (m m' : List ℕ) (s : Step) (o : Outcome) → flat_size ≤ length m → Both s m m' o → Both (step_in m s) m m' o
long-step m m' s o h b = subst (λ (x : Step). Both x m m' o) (sym (cond_no (ltb (length m) flat_size) (refuses (lookup_in m) OutOfForm) s (le-ltb (length m) flat_size h))) b

settled-left : (l : Lookup) (m : List ℕ) → sets m 0 (lookup_bytes l) ≡ step_memory m (settled l)
unfolding settled
settled-left l m =
    cond_ind Writes (is_over (marks_of l)) (ends l) (gives l (Ok Going))
    (λ e. cond_ind (λ (a : Result Answer Refusal). sets m 0 (lookup_bytes l) ≡ cond (is_refused a) m (sets m 0 (lookup_bytes l))) l.turned ((Ok (CutShort (sent_of (marks_of l))))) ((Ok (Complete (sent_of (marks_of l))))) (λ q. refl) (λ q. refl))
    (λ e. refl)
  where
    Writes : Step → Type 0
    Writes s = sets m 0 (lookup_bytes l) ≡ step_memory m s

pub settled-does : (l : Lookup) (m m' : List ℕ) (o : Outcome) → (o ≡ outcome_of (settled l)) × (m' ≡ sets m 0 (lookup_bytes l)) → Both (settled l) m m' o
settled-does l m m' o e = (e.0, e.1 ∙ settled-left l m)

-- ---- failure
module _ (m own ours id : List ℕ) (h : flat_size ≤ length m) (w : Result ℕ Refusal) (ew : w ≡ whom_of (lookup_in m) own ours id) where
  pub failure-refused : (r : Refusal) (o : Outcome) → w ≡ Err r → o ≡ answers (Err r) → Both (failure_in m own ours id) m m o
  failure-refused r o q e =
      long-step m m (failure_of (lookup_in m) own ours id) o h
      (subst (λ (s : Step). Both s m m o) (fail-refused (lookup_in m) own ours id w ew (refuses (lookup_in m) r) r q refl) (e, refl))

  pub failure-at : (i : ℕ) (m' : List ℕ) (o : Outcome) → w ≡ Ok i
      → (o ≡ outcome_of (settled (mark i failed (lookup_in m)))) × (m' ≡ sets m 0 (lookup_bytes (mark i failed (lookup_in m)))) → Both (failure_in m own ours id) m m' o
  failure-at i m' o q e =
      long-step m m' (failure_of (lookup_in m) own ours id) o h
      (subst (λ (s : Step). Both s m m' o) (fail-at (lookup_in m) own ours id w ew (settled (mark i failed (lookup_in m))) i (mark i failed (lookup_in m)) q refl refl)
      (settled-does (mark i failed (lookup_in m)) m m' o e))

-- ---- hearing of a peer
pub beyond-by : (t p : List ℕ) (c : Candidate) (t' q : List ℕ) (b : Bool) → t' ≡ t → q ≡ c.place → b ≡ nearer_to t' q p → not b ≡ beyond t p c
beyond-by t p c t' q b et eq eb = ap not (eb ∙ ap (λ (x : List ℕ). nearer_to x q p) et ∙ ap (λ (x : List ℕ). nearer_to t x p) eq)

module _ (m : List ℕ) (c : Candidate) (n : ℕ) (b : Bool) (en : n ≡ (lookup_in m).count) (eb : b ≡ known c.place (take n (lookup_in m).candidates)) where
  known_in : b ≡ known c.place (candidates_of (lookup_in m))
  known_in = eb ∙ ap (λ (k : ℕ). known c.place (take k (lookup_in m).candidates)) en

  pub meets-known : b ≡ true → Becomes (meet c (lookup_in m)) m m
  meets-known t = subst (λ (x : Lookup). Becomes x m m) (meet-known c (lookup_in m) b known_in t) (becomes-nothing m)

  module _ (t : b ≡ false) (m' : List ℕ) where
    pub meets-full : room ≤ n → Becomes (turn_away (lookup_in m)) m m' → Becomes (meet c (lookup_in m)) m m'
    meets-full h d = subst (λ (x : Lookup). Becomes x m m') (meet-full c (lookup_in m) b known_in t (subst (λ (x : ℕ). room ≤ x) en h)) d

    pub meets-new : (r : ℕ) → n < room → r ≡ rank_of (lookup_in m).target c.place (take n (lookup_in m).candidates) → Becomes (joined (lookup_in m) n r c) m m'
        → Becomes (meet c (lookup_in m)) m m'
    meets-new r h er d =
        subst (λ (x : Lookup). Becomes x m m')
        (ap (λ (k : ℕ). joined (lookup_in m) k r c) en
        ∙ meet-new c (lookup_in m) b known_in t r (joined (lookup_in m) (lookup_in m).count r c) (subst (λ (x : ℕ). x < room) en h) (all_there m)
        (er ∙ ap (λ (k : ℕ). rank_of (lookup_in m).target c.place (take k (lookup_in m).candidates)) en) refl) d

module _ (m ours id : List ℕ) (c : Candidate) where
  pub hears-nobody : c ≡ arrival_of ours id → c.len < 1 → Becomes (hear ours id (lookup_in m)) m m
  hears-nobody e h = subst (λ (x : Lookup). Becomes x m m) (hear-nobody ours id (lookup_in m) c e h) (becomes-nothing m)

  pub hears-someone : (m' : List ℕ) → c ≡ arrival_of ours id → 1 ≤ c.len → Becomes (meet c (lookup_in m)) m m' → Becomes (hear ours id (lookup_in m)) m m'
  hears-someone m' e h d = subst (λ (x : Lookup). Becomes x m m') (hear-someone ours id (lookup_in m) c e (meet c (lookup_in m)) h refl) d

-- the loop: the entries from i on are still to be heard
pub record Hearing (body ours : List ℕ) (n : ℕ) (m₀ m : List ℕ) (i : ℕ) : Type 0 where
  pub heard : Heard body ours n (lookup_in m₀) (lookup_in m) i
  pub become : Becomes (lookup_in m) m₀ m

pub hearing-none : (body ours : List ℕ) (n : ℕ) (m : List ℕ) → flat_size ≤ length m → (lookup_in m).count ≤ 256 → Hearing body ours n m m 0
hearing-none body ours n m l h = record { heard = heard-start body ours n (lookup_in m) h (all_there m); become = becomes-nothing m }

pub hearing-long : (body ours : List ℕ) (n : ℕ) (m₀ m : List ℕ) (i : ℕ) → flat_size ≤ length m₀ → Hearing body ours n m₀ m i → flat_size ≤ length m
hearing-long body ours n m₀ m i l g = omega (arith, g.become.long)

pub hearing-room : (body ours : List ℕ) (n : ℕ) (m₀ m : List ℕ) (i : ℕ) → Hearing body ours n m₀ m i → (lookup_in m).count ≤ 256
hearing-room body ours n m₀ m i g = g.heard.fits

pub hearing-one : (body ours : List ℕ) (ids : Ids) → ids ≡ ids_of (heard_at body) → (m₀ m m' : List ℕ) {i : ℕ} → i < ids.n → Hearing body ours ids.n m₀ m i
    → Becomes (hear ours (part body (get_or ids.at i 0) (get_or ids.end i 0)) (lookup_in m)) m m' → Hearing body ours ids.n m₀ m' (i + 1)
hearing-one body ours ids e m₀ m m' {i} h g d =
    record {
      heard = heard-one body ours (lookup_in m₀) ids e (lookup_in m) (lookup_in m') i h g.heard d.holds;
      become = record { holds = refl; long = d.long ∙ g.become.long; past = d.past ∙ g.become.past };
    }

pub hearing-all : (body ours : List ℕ) (ids : Ids) → ids ≡ ids_of (heard_at body) → (m₀ m : List ℕ) (i : ℕ) → ids.n ≤ i → Hearing body ours ids.n m₀ m i
    → Becomes (hear_all ours (heard_ids body) (lookup_in m₀)) m₀ m
hearing-all body ours ids e m₀ m i h g =
    subst (λ (x : Lookup). Becomes x m₀ m) (heard_all body ours (lookup_in m₀) ids e (lookup_in m) i h g.heard) g.become

-- ---- a message from the candidate of rank i
module _ (m ours body : List ℕ) (kind i : ℕ) (h : (lookup_in m).count ≤ 256) where
  pub from-found-in : (m₁ m₂ : List ℕ) → kind ≡ find_node → Becomes (mark i answered (lookup_in m)) m m₁ → Becomes (hear_all ours (heard_ids body) (lookup_in m₁)) m₁ m₂
      → (Becomes (heard_from ours body kind (lookup_in m) i) m m₂) × ((lookup_in m₂).count ≤ 256)
  from-found-in m₁ m₂ e a b = (
    record {
      holds = from_found ours body kind (lookup_in m) i (lookup_in m₁) (lookup_in m₂) e a.holds b.holds;
      long = b.long ∙ a.long;
      past = b.past ∙ a.past;
    },
    found-fits ours body (lookup_in m) (lookup_in m₁) (lookup_in m₂) i h a.holds b.holds,
  )

  pub from-other-in : (m₁ : List ℕ) → (kind ≡ find_node → ⊥) → Becomes (mark i failed (lookup_in m)) m m₁
      → (Becomes (heard_from ours body kind (lookup_in m) i) m m₁) × ((lookup_in m₁).count ≤ 256)
  from-other-in m₁ e a = (
    record { holds = from-other ours body kind (lookup_in m) i (lookup_in m₁) e a.holds; long = a.long; past = a.past },
    subst (λ (x : Lookup). x.count ≤ 256) (sym a.holds) h,
  )

-- ---- reply
module _ (m own ours id body : List ℕ) (v : Fields) (l : flat_size ≤ length m) (b : Bool) (eb : b ≡ is_view body v) where
  pub reply-bad-in : (o : Outcome) → not b ≡ true → o ≡ answers (Err OutOfForm) → Both (reply_in m own ours id body v) m m o
  reply-bad-in o h e =
      long-step m m (reply_of (lookup_in m) own ours id body v) o l
      (subst (λ (s : Step). Both s m m o) (reply-bad (lookup_in m) own ours id body v b eb (refuses (lookup_in m) OutOfForm) h refl) (e, refl))

  module _ (h : not b ≡ false) (w : Result ℕ Refusal) (ew : w ≡ whom_of (lookup_in m) own ours id) where
    pub reply-refused-in : (r : Refusal) (o : Outcome) → w ≡ Err r → o ≡ answers (Err r) → Both (reply_in m own ours id body v) m m o
    reply-refused-in r o q e =
        long-step m m (reply_of (lookup_in m) own ours id body v) o l
        (subst (λ (s : Step). Both s m m o) (reply-refused (lookup_in m) own ours id body v b eb (refuses (lookup_in m) r) h w ew r q refl) (e, refl))

    pub reply-at-in : (i : ℕ) (m' : List ℕ) (o : Outcome) → w ≡ Ok i
        → (o ≡ outcome_of (settled (heard_from ours body v.kind (lookup_in m) i))) × (m' ≡ sets m 0 (lookup_bytes (heard_from ours body v.kind (lookup_in m) i)))
        → Both (reply_in m own ours id body v) m m' o
    reply-at-in i m' o q e =
        long-step m m' (reply_of (lookup_in m) own ours id body v) o l
        (subst (λ (s : Step). Both s m m' o)
        (reply-at (lookup_in m) own ours id body v b eb (settled (heard_from ours body v.kind (lookup_in m) i)) h w ew i (heard_from ours body v.kind (lookup_in m) i) q refl refl)
        (settled-does (heard_from ours body v.kind (lookup_in m) i) m m' o e))

-- ---- changes that follow each other
pub count_kept : (l : Lookup) (m m' : List ℕ) → Becomes l m m' → l.count ≤ 256 → (lookup_in m').count ≤ 256
count_kept l m m' b h = subst (λ (x : Lookup). x.count ≤ 256) (sym b.holds) h

pub still-long : (l : Lookup) (m m' : List ℕ) → Becomes l m m' → flat_size ≤ length m → flat_size ≤ length m'
still-long l m m' b h = omega (arith, b.long)
