-- Laws of the array of candidates: one candidate more. Assumes nothing.
use Prim.Native.Nat.{ℕ, suc, ◌+◌, ◌-◌, ◌≤◌, ◌<◌}
use mathlib.Core.Path.{◌≡◌, refl, sym, ap, ◌∙◌}
use mathlib.Core.Bool.{Bool, true, false, cond, not}
use mathlib.Core.List.{List, [], ◌∷◌, ◌++◌, append_assoc}
use native.Mathlib.Omega.{arith}
use lib.ListN.{length, take, drop, length-drop, length-append}
use lib.Seq.{length-take-le, take-take}
use Rattle.place.specs.Place.{nearer_to}
use Rattle.octets.specs.Search.{first_in}
use Rattle.lookup.specs.Inner.{beyond, rank_of}
use Rattle.lookup.specs.Lookup.{candidates_of, with_candidates, put, enter}
use Rattle.lookup_candidates.specs.declared.Candidate.{Candidate}
use Rattle.lookup.specs.Value.{Lookup}
use Rattle.octets.proofs.Finding.{first-le}

-- ---- one more, at its rank
pub enter-at : (t : List ℕ) (c : Candidate) (cs : List Candidate)
    → take (rank_of t c.place cs) cs ++ (c ∷ drop (rank_of t c.place cs) cs) ≡ enter t c cs
unfolding first_in enter
enter-at t c [] = refl
enter-at t c (d ∷ cs) = go (nearer_to t d.place c.place) (enter-at t c cs)
  where
    go : (b : Bool) → take (rank_of t c.place cs) cs ++ (c ∷ drop (rank_of t c.place cs) cs) ≡ enter t c cs
        → take (cond (not b) 0 (suc (rank_of t c.place cs))) (d ∷ cs) ++ (c ∷ drop (cond (not b) 0 (suc (rank_of t c.place cs))) (d ∷ cs))
        ≡ cond b (d ∷ enter t c cs) (c ∷ d ∷ cs)
    go true ih = ap (λ (l : List Candidate). d ∷ l) ih
    go false ih = refl

pub put-enter : (l : Lookup) (c : Candidate) (r : ℕ) → l.count < 256 → length l.candidates ≡ 256
    → r ≡ rank_of l.target c.place (candidates_of l)
    → with_candidates l (l.count + 1) (take r l.candidates ++ (c ∷ (drop r (candidates_of l) ++ drop (l.count + 1) l.candidates)))
    ≡ put l (enter l.target c (candidates_of l))
put-enter l c r h hl e =
    let m : length (candidates_of l) ≡ l.count = length-take-le l.count l.candidates (omega arith) in
    let hr : r ≤ l.count = omega (arith, first-le (beyond l.target c.place) (candidates_of l)) in
    let q : take r (candidates_of l) ++ (c ∷ drop r (candidates_of l)) ≡ enter l.target c (candidates_of l) =
    ap (λ (k : ℕ). take k (candidates_of l) ++ (c ∷ drop k (candidates_of l))) e ∙ enter-at l.target c (candidates_of l) in
    let w : length (take r (candidates_of l) ++ (c ∷ drop r (candidates_of l))) ≡ l.count + 1 =
    length-append (take r (candidates_of l)) (c ∷ drop r (candidates_of l))
    ∙ omega (arith, length-take-le r (candidates_of l) (omega arith), length-drop r (candidates_of l)) in
    let z : take r l.candidates ++ (c ∷ (drop r (candidates_of l) ++ drop (l.count + 1) l.candidates))
    ≡ (take r (candidates_of l) ++ (c ∷ drop r (candidates_of l))) ++ drop (l.count + 1) l.candidates =
    ap (λ (xs : List Candidate). xs ++ (c ∷ (drop r (candidates_of l) ++ drop (l.count + 1) l.candidates))) (sym (take-take r l.count l.candidates hr))
    ∙ sym (append_assoc (take r (candidates_of l)) (c ∷ drop r (candidates_of l)) (drop (l.count + 1) l.candidates)) in
    ap (λ (xs : List Candidate). with_candidates l (l.count + 1) xs) z
    ∙ ap (λ (k : ℕ). with_candidates l k ((take r (candidates_of l) ++ (c ∷ drop r (candidates_of l))) ++ drop k l.candidates)) (sym w)
    ∙ ap (λ (xs : List Candidate). put l xs) q
