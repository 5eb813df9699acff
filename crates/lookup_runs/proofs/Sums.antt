-- A weight summed over the candidates: one mark set, one candidate more, and counts as such sums. Assumes nothing.
use Prim.Native.Nat.{ℕ, zero, suc, ◌+◌, ◌≤◌, ◌<◌}
use mathlib.Core.Path.{◌≡◌, refl, ap, ap₂, ◌∙◌}
use mathlib.Core.Bool.{Bool, cond, not}
use mathlib.Core.List.{List, [], ◌∷◌, map}
use native.Mathlib.Omega.{arith}
use lib.Dec.{eqb}
use lib.ListN.{length, get_or}
use Rattle.octets.specs.Search.{count}
use Rattle.octets.proofs.Bools.{cond_ind}
use Rattle.place.specs.Place.{nearer_to}
use Rattle.lookup_marks.specs.Marks.{idle, flying, flights_of, sent_of}
use Rattle.lookup.specs.Lookup.{mark_of, with_mark, mark_at, lies_at, enter}
use Rattle.lookup_candidates.specs.declared.Candidate.{Candidate}

unfoldable pub sum_of : (Candidate → ℕ) → List Candidate → ℕ
sum_of w [] = 0
sum_of w (c ∷ cs) = w c + sum_of w cs

module _ (w : Candidate → ℕ) where
  pub sum-nil : sum_of w [] ≡ 0
  unfolding sum_of
  sum-nil = refl

  pub sum-cons : (c : Candidate) (cs : List Candidate) → sum_of w (c ∷ cs) ≡ w c + sum_of w cs
  unfolding sum_of
  sum-cons c cs = refl

  -- what a candidate weighed before and weighs after
  pub sum-mark : (i m : ℕ) (cs : List Candidate) (d : Candidate) → i < length cs
      → sum_of w (mark_at i m cs) + w (get_or cs i d) ≡ sum_of w cs + w (with_mark m (get_or cs i d))
  unfolding sum_of mark_at
  sum-mark i m [] d h = absurd (omega arith)
  sum-mark zero m (c ∷ cs) d h = omega arith
  sum-mark (suc i) m (c ∷ cs) d h = omega (arith, sum-mark i m cs d (omega arith))

  pub sum-enter : (t : List ℕ) (c : Candidate) (cs : List Candidate) → sum_of w (enter t c cs) ≡ w c + sum_of w cs
  unfolding sum_of enter
  sum-enter t c [] = refl
  sum-enter t c (d ∷ cs) =
      let ih : sum_of w (enter t c cs) ≡ w c + sum_of w cs = sum-enter t c cs in
      cond_ind (λ (l : List Candidate). sum_of w l ≡ w c + (w d + sum_of w cs)) (nearer_to t d.place c.place) (d ∷ enter t c cs) (c ∷ d ∷ cs)
      (λ e. omega arith) (λ e. refl)

pub sum-le : (v w : Candidate → ℕ) → ((c : Candidate) → v c ≤ w c) → (cs : List Candidate) → sum_of v cs ≤ sum_of w cs
unfolding sum_of
sum-le v w h [] = omega arith
sum-le v w h (c ∷ cs) = omega (arith, h c, sum-le v w h cs)

pub sum_same : (v w : Candidate → ℕ) → ((c : Candidate) → v c ≡ w c) → (cs : List Candidate) → sum_of v cs ≡ sum_of w cs
unfolding sum_of
sum_same v w h [] = refl
sum_same v w h (c ∷ cs) = ap₂ (λ (a b : ℕ). a + b) (h c) (sum_same v w h cs)

-- 1 for the candidate at p
abbrev pub one : List ℕ → Candidate → ℕ
one p c = cond (lies_at p c) 1 0

-- a count of ranks whose marks pass is such a sum
abbrev pub weigh : (ℕ → Bool) → Candidate → ℕ
weigh p c = cond (p c.mark) 1 0

count-first : (n : ℕ) (p : ℕ → Bool) → count (suc n) p ≡ cond (p 0) 1 0 + count n (λ i. p (suc i))
unfolding count
count-first zero p = omega arith
count-first (suc n) p = omega (arith, count-first n p)

zeroth : (q : ℕ → Bool) → count 0 q ≡ 0
unfolding count
zeroth q = refl

pub count-sum : (p : ℕ → Bool) (cs : List Candidate) → count (length (map mark_of cs)) (λ i. p (get_or (map mark_of cs) i 0)) ≡ sum_of (weigh p) cs
unfolding sum_of
count-sum p [] = zeroth (λ (i : ℕ). p (get_or (map mark_of []) i 0))
count-sum p (c ∷ cs) =
    count-first (length (map mark_of cs)) (λ (i : ℕ). p (get_or (map mark_of (c ∷ cs)) i 0)) ∙ ap (λ (n : ℕ). cond (p c.mark) 1 0 + n) (count-sum p cs)

-- in flight, and no longer idle
abbrev pub flying_one : Candidate → ℕ
flying_one = weigh (λ (m : ℕ). eqb m flying)

abbrev pub asked_one : Candidate → ℕ
asked_one = weigh (λ (m : ℕ). not (eqb m idle))

pub flights-sum : (cs : List Candidate) → flights_of (map mark_of cs) ≡ sum_of flying_one cs
unfolding flights_of
flights-sum cs = count-sum (λ (m : ℕ). eqb m flying) cs

pub sent-sum : (cs : List Candidate) → sent_of (map mark_of cs) ≡ sum_of asked_one cs
unfolding sent_of
sent-sum cs = count-sum (λ (m : ℕ). not (eqb m idle)) cs
