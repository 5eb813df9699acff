-- Membership in a list of candidates. Assumes nothing.
use Prim.Native.Nat.{ℕ, zero, suc, ◌<◌}
use mathlib.Core.Path.{◌≡◌, refl}
use mathlib.Core.Logic.{◌⊎◌, ⊎_elim}
use mathlib.Core.Bool.{Bool, true, false}
use mathlib.Core.List.{List, [], ◌∷◌}
use native.Mathlib.Omega.{arith}
use lib.ListN.{length, get_or, take}
use Rattle.octets.specs.Search.{every, any_in}
use Rattle.octets.proofs.Bools.{and_l, and_r, or-e, or_l, or_r, not-both}
use Rattle.lookup.specs.Lookup.{nobody}
use Rattle.lookup_candidates.specs.declared.Candidate.{Candidate}

pub data In (c : Candidate) : List Candidate → Type 0 where
  here : {l : List Candidate} → In c (c ∷ l)
  there : {y : Candidate} {l : List Candidate} → In c l → In c (y ∷ l)

-- by rank, and back
pub in-at : {c : Candidate} {l : List Candidate} → In c l → (i : ℕ) × (i < length l) × (get_or l i nobody ≡ c)
in-at here = (0, omega arith, refl)
in-at (there m) = let r = in-at m in (suc r.0, omega (arith, r.1), r.2)

pub at_in : (l : List Candidate) (i : ℕ) → i < length l → In (get_or l i nobody) l
at_in [] i h = absurd (omega arith)
at_in (c ∷ l) zero h = here
at_in (c ∷ l) (suc i) h = there (at_in l i (omega arith))

abbrev Filled : List Candidate → Type 0
Filled [] = ⊥
Filled (c ∷ l) = Unit {0}

filled : {c : Candidate} {l : List Candidate} → In c l → Filled l
filled here = tt
filled (there m) = tt

pub take_in : {c : Candidate} (k : ℕ) (l : List Candidate) → In c (take k l) → In c l
take_in zero l m = absurd (filled m)
take_in (suc k) [] m = m
take_in (suc k) (d ∷ l) m = go (λ n. take_in k l n) m
  where
    go : {c : Candidate} → (In c (take k l) → In c l) → In c (d ∷ take k l) → In c (d ∷ l)
    go f here = here
    go f (there n) = there (f n)

-- ---- tests
module _ (q : Candidate → Bool) where
  pub in-any : {c : Candidate} {l : List Candidate} → In c l → q c ≡ true → any_in q l ≡ true
  unfolding any_in
  in-any {c} (here {l}) e = or_l (q c) (any_in q l) e
  in-any (there {y} {l} m) e = or_r (q y) (any_in q l) (in-any m e)

  pub any-in : (l : List Candidate) → any_in q l ≡ true → (c : Candidate) × In c l × (q c ≡ true)
  unfolding any_in
  any-in [] h = absurd (not-both false h refl)
  any-in (c ∷ l) h =
      ⊎_elim (λ e. (c, here, e)) (λ e. let r = any-in l e in (r.0, there r.1, r.2)) (or-e (q c) (any_in q l) h)

  pub every_in : {c : Candidate} {l : List Candidate} → In c l → every q l ≡ true → q c ≡ true
  unfolding every
  every_in {c} (here {l}) e = and_l (q c) (every q l) e
  every_in (there {y} {l} m) e = every_in m (and_r (q y) (every q l) e)
