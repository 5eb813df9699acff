-- A lookup that a step hands back is read back from the bytes that it is written to: its arrays have their lengths, its numbers fit. Assumes nothing.
use Prim.Native.Nat.{ℕ, zero, suc, ◌≤◌}
use mathlib.Core.Path.{◌≡◌, refl, sym, ◌∙◌, subst}
use mathlib.Core.Bool.{true, false, not, true≢false}
use mathlib.Core.List.{List, [], ◌∷◌}
use native.Mathlib.Omega.{arith}
use lib.Dec.{ltb}
use lib.ListN.{length, take, drop, length-append, length-take, length-drop}
use lib.Seq.{sets}
use borrow.Author.Tests.{ltb-true, not-false}
use Rattle.octets.specs.Octets.{same}
use Rattle.octets.proofs.Bools.{cond_ind}
use Rattle.limits.specs.Limits.{most_id, place_size, most_key}
use Rattle.sha256.specs.Sha256.{sha256}
use Rattle.sha256.proofs.Laws.{length-sha256}
use Rattle.parts.specs.Parts.{is_view}
use Rattle.place.specs.Place.{nearer_to}
use Rattle.lookup_marks.specs.Marks.{answered}
use Rattle.lookup_candidates.specs.declared.Candidate.{Candidate}
use Rattle.lookup.specs.Lookup.{room, fresh, id_fits, candidates_of, in_form, mark_at, mark, put, turn_away, next_of, whom_of, reported, known, enter, meet, hear, hear_all, reply_of, failure_of}
use Rattle.lookup.specs.Value.{Lookup, Step}
use Rattle.lookup.specs.declared.Answer.{Answer}
use Rattle.lookup.specs.declared.Answer.TheVariants.{Complete, CutShort, Wait, Ask, Going}
use Rattle.lookup.proofs.Form.{Formed, formed}
use Rattle.lookup.proofs.Hearing.{enter-length}
use Rattle.lookup_runs.specs.Runs.{Call, go_next, go_reply, go_fail, step}
use Rattle.lookup_runs.proofs.Marking.{length-mark}
use Rattle.lookup_runs.proofs.Moves.{Move, stays, asks, fails, answers, moved}
use Rattle.lookup_runs.proofs.Refusals.{refusals}
use Rattle.flat_lookup.specs.FlatLookup.{id_at, place_at, key_at, target_at, flat_size, candidates_at, candidate_size, candidates_in, lookup_in, lookup_bytes}
use Rattle.flat_lookup.specs.Promises.{SizedCandidate}
use Rattle.flat_lookup.proofs.Padding.{padded-length}
use Rattle.flat_lookup.proofs.Reading.{candidates-length}
use Rattle.lookup_in_place.specs.InPlace.{is_refused, step_memory}
use Rattle.lookup_in_place.proofs.ReadBack.{AllSized, all_append, Shaped, Storable, reads-back}
use Rattle.std.specs.Prelude.{Ok, Err, Result}
use Rattle.refusal.specs.declared.Refusal.{Refusal}

-- ---- candidates whose arrays have their lengths
all_take : (n : ℕ) (cs : List Candidate) → AllSized cs → AllSized (take n cs)
unfolding AllSized
all_take zero cs h = tt
all_take (suc n) [] h = tt
all_take (suc n) (c ∷ cs) h = (h.0, all_take n cs h.1)

all_drop : (n : ℕ) (cs : List Candidate) → AllSized cs → AllSized (drop n cs)
unfolding AllSized
all_drop zero cs h = h
all_drop (suc n) [] h = tt
all_drop (suc n) (c ∷ cs) h = all_drop n cs h.1

all-mark : (i m : ℕ) (cs : List Candidate) → AllSized cs → AllSized (mark_at i m cs)
unfolding AllSized mark_at
all-mark i m [] h = tt
all-mark zero m (c ∷ cs) h = (record { id_long = h.0.id_long; place_long = h.0.place_long }, h.1)
all-mark (suc i) m (c ∷ cs) h = (h.0, all-mark i m cs h.1)

all-enter : (t : List ℕ) (c : Candidate) (cs : List Candidate) → SizedCandidate c → AllSized cs → AllSized (enter t c cs)
unfolding AllSized enter
all-enter t c [] s h = (s, tt)
all-enter t c (d ∷ cs) s h =
    let later : AllSized (enter t c cs) = all-enter t c cs s h.1 in
    cond_ind AllSized (nearer_to t d.place c.place) _ _ (λ e. (h.0, later)) (λ e. (s, (h.0, h.1)))

all_read : (n : ℕ) (s : List ℕ) → AllSized (candidates_in n s)
unfolding AllSized candidates_in
all_read zero s = tt
all_read (suc n) s =
    (record { id_long = padded-length most_id (drop id_at s); place_long = padded-length place_size (drop place_at s) }, all_read n (drop candidate_size s))

-- ---- a lookup that is read
pub read-shaped : (s : List ℕ) → Shaped (lookup_in s)
read-shaped s =
    record {
      long = candidates-length room (drop candidates_at s);
      key = padded-length most_key (drop key_at s);
      target = padded-length place_size (drop target_at s);
      all = all_read room (drop candidates_at s);
    }

formed-storable : (l : Lookup) → Shaped l → in_form l ≡ true → Storable l
formed-storable l h e = let f : Formed l = formed l e in record { shape = h; count = f.fits; size = f.size_high; limit = f.limit_high }

-- ---- marks and newcomers
mark-storable : (i m : ℕ) (l : Lookup) → Storable l → Storable (mark i m l)
mark-storable i m l h =
    let a = h.shape in
    record {
      shape = record { long = length-mark i m l.candidates ∙ a.long; key = a.key; target = a.target; all = all-mark i m l.candidates a.all };
      count = h.count;
      size = h.size;
      limit = h.limit;
    }

put-storable : (l : Lookup) (cs : List Candidate) → length cs ≤ room → AllSized cs → Storable l → Storable (put l cs)
put-storable l cs n g h =
    let a = h.shape in
    record {
      shape = record {
        long = length-append cs (drop (length cs) l.candidates) ∙ omega (arith, length-drop (length cs) l.candidates, a.long);
        key = a.key;
        target = a.target;
        all = all_append cs (drop (length cs) l.candidates) g (all_drop (length cs) l.candidates a.all);
      };
      count = n;
      size = h.size;
      limit = h.limit;
    }

turn-storable : (l : Lookup) → Storable l → Storable (turn_away l)
turn-storable l h =
    let a = h.shape in
    record { shape = record { long = a.long; key = a.key; target = a.target; all = a.all }; count = h.count; size = h.size; limit = h.limit }

meet-storable : (c : Candidate) (l : Lookup) → SizedCandidate c → Storable l → Storable (meet c l)
unfolding meet
meet-storable c l s h =
    cond_ind Storable (known c.place (candidates_of l)) _ _ (λ e. h)
    (λ e. cond_ind Storable (ltb l.count room) _ _
    (λ e. put-storable l (enter l.target c (candidates_of l))
    (omega (arith, enter-length l.target c (candidates_of l), length-take l.count l.candidates, ltb-true l.count room e))
    (all-enter l.target c (candidates_of l) s (all_take l.count l.candidates h.shape.all)) h)
    (λ e. turn-storable l h))

hear-storable : (ours id : List ℕ) (l : Lookup) → Storable l → Storable (hear ours id l)
unfolding hear
hear-storable ours id l h =
    cond_ind Storable (not (id_fits id)) _ _ (λ e. h)
    (λ e. cond_ind Storable (same (sha256 id) ours) _ _ (λ e. h)
    (λ e. meet-storable (fresh id) l (record { id_long = padded-length most_id id; place_long = length-sha256 id }) h))

all-storable : (ours : List ℕ) (ids : List (List ℕ)) (l : Lookup) → Storable l → Storable (hear_all ours ids l)
unfolding hear_all
all-storable ours [] l h = h
all-storable ours (id ∷ ids) l h = all-storable ours ids (hear ours id l) (hear-storable ours id l h)

-- ---- a step that isn't refused
abbrev Formal : Lookup → Step → Type 0
Formal l s = is_refused s.answer ≡ false → in_form l ≡ true

refused : (l : Lookup) {X : Type 0} → true ≡ false → X
refused l e = absurd (true≢false e)

next-formal : (l : Lookup) → Formal l (next_of l)
unfolding next_of
next-formal l = cond_ind (Formal l) (not (in_form l)) _ _ (λ e z. refused l z) (λ e z. not-false (in_form l) e)

report-formal : (l : Lookup) (own ours id : List ℕ) (f : ℕ → Lookup) → Formal l (reported l (whom_of l own ours id) f)
unfolding whom_of
report-formal l own ours id f =
    cond_ind (λ (w : Result ℕ Refusal). Formal l (reported l w f)) (not (in_form l)) _ _ (λ e z. refused l z) (λ e z. not-false (in_form l) e)

step-formal : (c : Call) (l : Lookup) → Formal l (step c l)
unfolding step failure_of reply_of
step-formal go_next l = next-formal l
step-formal (go_reply own ours id body v) l =
    cond_ind (Formal l) (not (is_view body v)) _ _ (λ e z. refused l z) (λ e. report-formal l own ours id _)
step-formal (go_fail own ours id) l = report-formal l own ours id _

pub step-storable : (c : Call) (l : Lookup) → Shaped l → is_refused (step c l).answer ≡ false → Storable (step c l).lookup
step-storable c l h z = go (moved c l h.long)
  where
    now : Storable l
    now = formed-storable l h (step-formal c l z)

    go : Move c l (step c l) → Storable (step c l).lookup
    go (stays e q w) = subst Storable (sym e) now
    go (asks i ec g n e q) = subst Storable (sym e) (mark-storable i _ l now)
    go (fails id i f g p e q a) = subst Storable (sym e) (mark-storable i _ l now)
    go (answers own ours id body v i ec k g p e q a) = subst Storable (sym e) (all-storable ours _ (mark i answered l) (mark-storable i answered l now))

-- ---- what is written stands for what the step hands back, and in a step that is refused for what was there
same-if-refused : (c : Call) (l : Lookup) → is_refused (step c l).answer ≡ true → (step c l).lookup ≡ l
same-if-refused c l e = go (step c l).answer refl e
  where
    go : (x : Result Answer Refusal) → (step c l).answer ≡ x → is_refused x ≡ true → (step c l).lookup ≡ l
    go (Err r) h z = refusals.untouched c l r h
    go (Ok (Complete n)) h z = absurd (true≢false (sym z))
    go (Ok (CutShort n)) h z = absurd (true≢false (sym z))
    go (Ok Wait) h z = absurd (true≢false (sym z))
    go (Ok (Ask i)) h z = absurd (true≢false (sym z))
    go (Ok Going) h z = absurd (true≢false (sym z))

pub step-reads : (m : List ℕ) (c : Call) → flat_size ≤ length m → lookup_in (step_memory m (step c (lookup_in m))) ≡ (step c (lookup_in m)).lookup
step-reads m c n =
    let s : Step = step c (lookup_in m) in
    cond_ind (λ (x : List ℕ). lookup_in x ≡ s.lookup) (is_refused s.answer) m (sets m 0 (lookup_bytes s.lookup)) (λ e. sym (same-if-refused c (lookup_in m) e))
    (λ e. reads-back m s.lookup n (step-storable c (lookup_in m) (read-shaped m) e))
