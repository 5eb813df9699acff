-- A mark set, seen in the list of marks and in searches. Assumes nothing.
use Prim.Native.Nat.{ℕ, zero, suc, ◌<◌}
use mathlib.Core.Path.{◌≡◌, refl, sym, ap, ◌∙◌, subst}
use mathlib.Core.Bool.{Bool, true, false, cond, ◌||◌}
use mathlib.Core.List.{List, [], ◌∷◌, map}
use native.Mathlib.Omega.{arith}
use lib.Dec.{eqb}
use lib.ListN.{length, get_or, take, drop, length-map, get_or-map}
use lib.Seq.{take-append_seam}
use borrow.Author.Tests.{eqb-true}
use Rattle.octets.proofs.Bools.{cond_ind, and_l, and_r, or_off}
use Rattle.octets.proofs.Strings.{same-eq}
use Rattle.place.specs.Place.{nearer_to}
use Rattle.lookup_marks.specs.Marks.{idle, flying, marked, twenty_of, pick, idle_of}
use Rattle.octets.specs.Search.{first_in, any_in}
use Rattle.lookup.specs.Lookup.{candidates_of, mark_of, put, with_mark, mark_at, mark, flies, flyer_of, enter, nobody}
use Rattle.lookup_candidates.specs.declared.Candidate.{Candidate}
use Rattle.lookup.specs.Value.{Lookup}

pub take-mark : (n i m : ℕ) (cs : List Candidate) → take n (mark_at i m cs) ≡ mark_at i m (take n cs)
unfolding mark_at
take-mark zero i m [] = refl
take-mark zero i m (c ∷ cs) = refl
take-mark (suc n) i m [] = refl
take-mark (suc n) zero m (c ∷ cs) = refl
take-mark (suc n) (suc i) m (c ∷ cs) = ap (λ (l : List Candidate). c ∷ l) (take-mark n i m cs)

pub length-mark : (i m : ℕ) (cs : List Candidate) → length (mark_at i m cs) ≡ length cs
unfolding mark_at
length-mark i m [] = refl
length-mark zero m (c ∷ cs) = refl
length-mark (suc i) m (c ∷ cs) = ap suc (length-mark i m cs)

-- the candidates of a lookup with one mark set, and with others put in
pub marked-candidates : (i m : ℕ) (l : Lookup) → candidates_of (mark i m l) ≡ mark_at i m (candidates_of l)
marked-candidates i m l = take-mark l.count i m l.candidates

pub put-candidates : (l : Lookup) (cs : List Candidate) → candidates_of (put l cs) ≡ cs
put-candidates l cs = take-append_seam cs (drop (length cs) l.candidates)

-- the mark of rank i
pub mark-at : (cs : List Candidate) (i : ℕ) → get_or (map mark_of cs) i 0 ≡ (get_or cs i nobody).mark
mark-at cs i = get_or-map mark_of cs i nobody

-- ---- whom `next` asks is idle
pick-passes : (p : ℕ → Bool) (d : ℕ) (l : List ℕ) → pick p d l < d → p (pick p d l) ≡ true
unfolding pick
pick-passes p d [] h = absurd (bad h)
  where
    bad : {n : ℕ} → n < n → ⊥
    bad q = omega arith
pick-passes p d (x ∷ l) h = go (pick-passes p d l) h
  where
    go : (pick p d l < d → p (pick p d l) ≡ true) → cond (p x) x (pick p d l) < d → p (cond (p x) x (pick p d l)) ≡ true
    go ih = cond_ind (λ (n : ℕ). n < d → p n ≡ true) (p x) x (pick p d l) (λ e h. e) (λ e. ih)

pub asked-idle : (cs : List Candidate) → idle_of (map mark_of cs) < length cs → (get_or cs (idle_of (map mark_of cs)) nobody).mark ≡ idle
unfolding idle_of
asked-idle cs h =
    sym (mark-at cs (pick (marked idle (map mark_of cs)) (length (map mark_of cs)) (twenty_of (map mark_of cs))))
    ∙ eqb-true _ idle (pick-passes (marked idle (map mark_of cs)) (length (map mark_of cs)) (twenty_of (map mark_of cs)) (subst (λ (n : ℕ). idle_rank < n) (sym (length-map cs mark_of)) h))
  where
    idle_rank : ℕ
    idle_rank = pick (marked idle (map mark_of cs)) (length (map mark_of cs)) (twenty_of (map mark_of cs))

-- ---- who is reported is in flight, at the place that was looked for
pub first_passes : {A : Type 0} (p : A → Bool) (l : List A) (d : A) → first_in p l < length l → p (get_or l (first_in p l) d) ≡ true
unfolding first_in
first_passes p [] d h = absurd (omega arith)
first_passes {A} p (x ∷ l) d h = go (first_passes p l d) h
  where
    go : (first_in p l < length l → p (get_or l (first_in p l) d) ≡ true) → cond (p x) 0 (suc (first_in p l)) < suc (length l)
        → p (get_or (x ∷ l) (cond (p x) 0 (suc (first_in p l))) d) ≡ true
    go ih = cond_ind (λ (n : ℕ). n < suc (length l) → p (get_or (x ∷ l) n d) ≡ true) (p x) 0 (suc (first_in p l)) (λ e h. e) (λ e h. ih (omega arith))

pub flyer-flies : (p : List ℕ) (cs : List Candidate) → flyer_of p cs < length cs
    → ((get_or cs (flyer_of p cs) nobody).mark ≡ flying) × ((get_or cs (flyer_of p cs) nobody).place ≡ p)
unfolding flies
flyer-flies p cs h =
    let q : flies p (get_or cs (flyer_of p cs) nobody) ≡ true = first_passes (flies p) cs nobody h in
    (eqb-true _ flying (and_l (eqb (get_or cs (flyer_of p cs) nobody).mark flying) _ q), same-eq _ p (and_r (eqb (get_or cs (flyer_of p cs) nobody).mark flying) _ q))

-- the candidate that a mark is set of
pub at_mark : (i m : ℕ) (cs : List Candidate) → i < length cs → get_or (mark_at i m cs) i nobody ≡ with_mark m (get_or cs i nobody)
unfolding mark_at
at_mark i m [] h = absurd (omega arith)
at_mark zero m (c ∷ cs) h = refl
at_mark (suc i) m (c ∷ cs) h = at_mark i m cs (omega arith)

-- ---- some candidate passes
or_swap : (a b c : Bool) → (a || (b || c)) ≡ (b || (a || c))
or_swap true true c = refl
or_swap true false c = refl
or_swap false true c = refl
or_swap false false c = refl

module _ (q : Candidate → Bool) where
  -- after a mark is set of one that didn't pass; and of one that passes as it did
  pub any-set : (i m : ℕ) (cs : List Candidate) → i < length cs → q (get_or cs i nobody) ≡ false
      → any_in q (mark_at i m cs) ≡ (q (with_mark m (get_or cs i nobody)) || any_in q cs)
  unfolding any_in mark_at
  any-set i m [] h e = absurd (omega arith)
  any-set zero m (c ∷ cs) h e = ap (λ (b : Bool). q (with_mark m c) || b) (sym (or_off (q c) (any_in q cs) e))
  any-set (suc i) m (c ∷ cs) h e =
      ap (λ (b : Bool). q c || b) (any-set i m cs (omega arith) e) ∙ or_swap (q c) (q (with_mark m (get_or cs i nobody))) (any_in q cs)

  pub any-unset : (i m : ℕ) (cs : List Candidate) → q (with_mark m (get_or cs i nobody)) ≡ q (get_or cs i nobody) → any_in q (mark_at i m cs) ≡ any_in q cs
  unfolding any_in mark_at
  any-unset i m [] e = refl
  any-unset zero m (c ∷ cs) e = ap (λ (b : Bool). b || any_in q cs) e
  any-unset (suc i) m (c ∷ cs) e = ap (λ (b : Bool). q c || b) (any-unset i m cs e)

  -- after one comes in
  pub any-entered : (t : List ℕ) (c : Candidate) (cs : List Candidate) → any_in q (enter t c cs) ≡ (q c || any_in q cs)
  unfolding any_in enter
  any-entered t c [] = refl
  any-entered t c (d ∷ cs) =
      let ih : any_in q (enter t c cs) ≡ (q c || any_in q cs) = any-entered t c cs in
      cond_ind (λ (l : List Candidate). any_in q l ≡ (q c || (q d || any_in q cs))) (nearer_to t d.place c.place) (d ∷ enter t c cs) (c ∷ d ∷ cs)
      (λ e. ap (λ (b : Bool). q d || b) ih ∙ or_swap (q d) (q c) (any_in q cs)) (λ e. refl)
