-- Laws of `places_of`: how the array is filled, and what stands in it. Assumes nothing.
use Prim.Native.Nat.{ℕ, zero, suc, ◌+◌, ◌*◌, ◌≤◌, ◌<◌}
use mathlib.Core.Path.{◌≡◌, refl, sym, ap, ◌∙◌}
use mathlib.Core.List.{List, [], ◌∷◌, ◌++◌}
use native.Mathlib.Numerals.{add-one}
use native.Mathlib.Omega.{arith}
use lib.ListN.{length, get_or, take, drop, set, replicate, length-append, length-take, get_or-append}
use lib.Seq.{length-sets, sets, sets-eq, take_all, take-append-le, get_or-take, get_or-drop}
use Rattle.octets.proofs.Stores.{sets-append, drop-sets}
use Rattle.wire.specs.Wire.{nowhere}
use Rattle.wire.specs.declared.Span.{Span}
use Rattle.peer_walk.specs.PeerWalk.{most_places, bounds, places_of}

bounds-append : (l m : List Span) → bounds (l ++ m) ≡ bounds l ++ bounds m
unfolding bounds
bounds-append [] m = refl
bounds-append (p ∷ l) m = rw (bounds-append l m)

bounds-length : (l : List Span) → length (bounds l) ≡ 2 * length l
unfolding bounds
bounds-length [] = refl
bounds-length (p ∷ l) = let e = bounds-length l in omega arith

bounds-at : (l : List Span) (k : ℕ) → k < length l
    → (get_or (bounds l) (2 * k) 0 ≡ (get_or l k nowhere).at) × (get_or (bounds l) (2 * k + 1) 0 ≡ (get_or l k nowhere).end)
unfolding bounds
bounds-at [] k h = absurd (omega arith)
bounds-at (p ∷ l) zero h = (refl, refl)
bounds-at (p ∷ l) (suc k) h =
    let e : 2 * suc k ≡ suc (suc (2 * k)) = omega arith in
    let f : 2 * suc k + 1 ≡ suc (suc (2 * k + 1)) = omega arith in
    let r = bounds-at l k (omega arith) in
    (rw e r.0, rw f r.1)

zeros : (n k : ℕ) → ◌≡◌ {A = ℕ} (get_or (replicate n 0) k 0) 0
zeros zero k = refl
zeros (suc n) zero = refl
zeros (suc n) (suc k) = zeros n k

-- ---- one more address
module _ (l : List Span) (p : Span) (n : ℕ) (e : n ≡ length l) (places : List ℕ) (q : places ≡ places_of l) where
  pub place-first : n < most_places → set (set places (2 * n) p.at) (2 * n + 1) p.end ≡ places_of (l ++ (p ∷ []))
  unfolding places_of bounds
  place-first h =
      let short : take most_places l ≡ l = take_all most_places l (omega arith) in
      let long : take most_places (l ++ (p ∷ [])) ≡ l ++ (p ∷ []) = take_all most_places (l ++ (p ∷ [])) (omega (arith, length-append l (p ∷ []))) in
      let z : 0 + length (bounds l) ≡ 2 * n = omega (arith, bounds-length l) in
      let y : 2 * n + 1 ≡ suc (2 * n) = add-one (2 * n) in
      rw (long, bounds-append l (p ∷ []), sets-append (replicate 16 0) 0 (bounds l) (bounds (p ∷ [])), z, y, q, short)

  pub place-more : most_places ≤ n → places ≡ places_of (l ++ (p ∷ []))
  unfolding places_of
  place-more h = q ∙ rw (take-append-le most_places l (p ∷ []) (omega arith))

-- ---- what stands there
module _ (l : List Span) where
  pub places-length : length (places_of l) ≡ 16
  unfolding places_of
  places-length = length-sets (replicate 16 0) 0 (bounds (take most_places l))

  told-length : length (bounds (take most_places l)) ≡ 2 * length (take most_places l)
  told-length = bounds-length (take most_places l)

  -- the address k, where it is one of the first eight
  pub place_at : (k : ℕ) → k < most_places → k < length l
      → (get_or (places_of l) (2 * k) 0 ≡ (get_or l k nowhere).at) × (get_or (places_of l) (2 * k + 1) 0 ≡ (get_or l k nowhere).end)
  unfolding places_of
  place_at k h i =
      let t = length-take most_places l in
      let r = bounds-at (take most_places l) k (omega (arith, h, i, t)) in
      let g = get_or-take most_places l k nowhere h in
      let w = sets-eq (bounds (take most_places l)) (replicate 16 0) 0 (omega (arith, told-length, t)) in
      let rest : List ℕ = drop (0 + length (bounds (take most_places l))) (replicate 16 0) in
      let a = get_or-append (bounds (take most_places l)) rest 0 (2 * k) (omega (arith, told-length, t, h, i)) in
      let b = get_or-append (bounds (take most_places l)) rest 0 (2 * k + 1) (omega (arith, told-length, t, h, i)) in
      (ap (λ (x : List ℕ). get_or x (2 * k) 0) w ∙ a ∙ r.0 ∙ ap (λ (x : Span). x.at) g, ap (λ (x : List ℕ). get_or x (2 * k + 1) 0) w ∙ b ∙ r.1 ∙ ap (λ (x : Span). x.end) g)

  -- nothing after the last
  pub place_none : (k : ℕ) → 2 * length l ≤ k → get_or (places_of l) k 0 ≡ 0
  unfolding places_of
  place_none k h =
      let z : k + 0 ≡ k = omega arith in
      let d = drop-sets k (replicate 16 0) 0 (bounds (take most_places l)) (omega (arith, told-length, length-take most_places l, h)) in
      sym (get_or-drop k (sets (replicate 16 0) 0 (bounds (take most_places l))) 0 0 ∙ rw z)
      ∙ ap (λ (x : List ℕ). get_or x 0 0) d
      ∙ get_or-drop k (replicate 16 0) 0 0
      ∙ zeros 16 (k + 0)
