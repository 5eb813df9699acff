-- The candidates that have not failed, nearest first, and the first twenty of them. Assumes nothing.
use Prim.Native.Nat.{ℕ, zero, suc, ◌+◌, ◌<◌}
use mathlib.Core.Path.{◌≡◌, refl, sym, ap, ap₂, ◌∙◌, subst}
use mathlib.Core.Logic.{◌⊎◌, inl, inr, ⊎_elim}
use mathlib.Core.Bool.{Bool, true, false, cond, ◌&&◌}
use mathlib.Core.List.{List, [], ◌∷◌, map}
use native.Mathlib.Omega.{arith}
use lib.Dec.{eqb}
use lib.ListN.{length, get_or, take, length-take, length-map}
use lib.Seq.{take-append_seam, get_or-take}
use Rattle.octets.specs.Search.{every}
use Rattle.octets.proofs.Bools.{cond_ind, cond-ap, not-both}
use Rattle.limits.specs.Limits.{most_near}
use Rattle.place.specs.Place.{distance}
use Rattle.lookup_marks.specs.Marks.{answered, failed, marked, live, twenty_of, is_over, ranks_of}
use Rattle.lookup.specs.Lookup.{mark_of, nobody, nearest_first}
use Rattle.lookup_candidates.specs.declared.Candidate.{Candidate}
use Rattle.lookup_runs.specs.History.{TwentyNearest}
use Rattle.lookup_runs.proofs.Members.{In, here, there, in-at, at_in, take_in, every_in}
use Rattle.lookup_runs.proofs.Marking.{mark-at}
use Rattle.lookup_runs.proofs.Order.{dist, Beyond, Rising, rising}

abbrev pub place_of : Candidate → List ℕ
place_of c = c.place

pub place_at : (l : List Candidate) (i : ℕ) → i < length l → get_or (map place_of l) i [] ≡ (get_or l i nobody).place
place_at [] i h = absurd (omega arith)
place_at (c ∷ l) zero h = refl
place_at (c ∷ l) (suc i) h = place_at l i (omega arith)

-- ---- those not failed
unfoldable pub left : List Candidate → List Candidate
left [] = []
left (c ∷ cs) = cond (eqb c.mark failed) (left cs) (c ∷ left cs)

-- by their ranks: f reads the candidates from rank r on
live-left : (f : ℕ → Candidate) (r : ℕ) (cs : List Candidate) → ((i : ℕ) → i < length cs → f (r + i) ≡ get_or cs i nobody) → map f (live r (map mark_of cs)) ≡ left cs
unfolding live left
live-left f r [] h = refl
live-left f r (c ∷ cs) h =
    cond-ap (map f) (eqb c.mark failed) (live (suc r) (map mark_of cs)) (r ∷ live (suc r) (map mark_of cs))
    ∙ ap₂ (λ (a : List Candidate) (b : List Candidate). cond (eqb c.mark failed) a b) (rest (live-left f (suc r) cs)) (ap₂ (λ (d : Candidate) (l : List Candidate). d ∷ l) first (rest (live-left f (suc r) cs)))
  where
    first : f r ≡ c
    first = ap f (plain r) ∙ h 0 (omega arith)
      where
        plain : (n : ℕ) → n ≡ n + 0
        plain n = omega arith

    on : (n i : ℕ) → suc n + i ≡ n + suc i
    on n i = omega arith

    rest : (((i : ℕ) → i < length cs → f (suc r + i) ≡ get_or cs i nobody) → map f (live (suc r) (map mark_of cs)) ≡ left cs) → map f (live (suc r) (map mark_of cs)) ≡ left cs
    rest ih = ih (λ i g. ap f (on r i) ∙ h (suc i) (omega arith))

map-take : (f : ℕ → Candidate) (k : ℕ) (l : List ℕ) → map f (take k l) ≡ take k (map f l)
map-take f zero l = refl
map-take f (suc k) [] = refl
map-take f (suc k) (x ∷ l) = ap (λ (r : List Candidate). f x ∷ r) (map-take f k l)

map-map : (f : ℕ → Candidate) (l : List ℕ) → map (λ r. (f r).place) l ≡ map place_of (map f l)
map-map f [] = refl
map-map f (x ∷ l) = ap (λ (r : List (List ℕ)). (f x).place ∷ r) (map-map f l)

-- the first twenty
abbrev pub twenty : List Candidate → List Candidate
twenty cs = take most_near (left cs)

zero-on : (n : ℕ) → 0 + n ≡ n
zero-on n = omega arith

twenty-is : (cs : List Candidate) → map (λ r. get_or cs r nobody) (twenty_of (map mark_of cs)) ≡ twenty cs
unfolding twenty_of
twenty-is cs =
    map-take (λ r. get_or cs r nobody) most_near (live 0 (map mark_of cs))
    ∙ ap (take most_near) (live-left (λ r. get_or cs r nobody) 0 cs (λ i h. ap (λ (n : ℕ). get_or cs n nobody) (zero-on i)))

-- their places, as they are found
pub found-places : (cs : List Candidate) → map (λ r. (get_or cs r nobody).place) (take (ranks_of (twenty_of (map mark_of cs))).n (ranks_of (twenty_of (map mark_of cs))).at) ≡ map place_of (twenty cs)
found-places cs =
    ap (map (λ r. (get_or cs r nobody).place)) (take-append_seam (twenty_of (map mark_of cs)) _) ∙ map-map (λ r. get_or cs r nobody) (twenty_of (map mark_of cs)) ∙ ap (map place_of) (twenty-is cs)

-- ---- over: all of them have answered
every_map : (q : Candidate → Bool) (f : ℕ → Candidate) (p : ℕ → Bool) → ((r : ℕ) → p r ≡ q (f r)) → (l : List ℕ) → every p l ≡ every q (map f l)
unfolding every
every_map q f p h [] = refl
every_map q f p h (x ∷ l) = ap₂ (λ (a b : Bool). a && b) (h x) (every_map q f p h l)

pub over-answered : (cs : List Candidate) {c : Candidate} → is_over (map mark_of cs) ≡ true → In c (twenty cs) → eqb c.mark answered ≡ true
unfolding is_over
over-answered cs o m =
    every_in (λ (d : Candidate). eqb d.mark answered) m
    (sym (every_map (λ (d : Candidate). eqb d.mark answered) (λ r. get_or cs r nobody) (marked answered (map mark_of cs)) (λ r. ap (λ (n : ℕ). eqb n answered) (mark-at cs r)) (twenty_of (map mark_of cs))
    ∙ ap (every (λ (d : Candidate). eqb d.mark answered)) (twenty-is cs)) ∙ o)

-- ---- who is left
pub in_left : {c : Candidate} {cs : List Candidate} → In c cs → eqb c.mark failed ≡ false → In c (left cs)
unfolding left
in_left {c} (here {l}) z =
    cond_ind (In c) (eqb c.mark failed) (left l) (c ∷ left l) (λ e. absurd (not-both (eqb c.mark failed) e z)) (λ e. here)
in_left {c} (there {y} {l} m) z =
    let ih : In c (left l) = in_left m z in
    cond_ind (In c) (eqb y.mark failed) (left l) (y ∷ left l) (λ e. ih) (λ e. there ih)

pub left_in : {c : Candidate} (cs : List Candidate) → In c (left cs) → In c cs × (eqb c.mark failed ≡ false)
unfolding left
left_in {c} [] m = (m, other m)
  where
    other : {d : Candidate} → In d [] → eqb d.mark failed ≡ false
    other n = absurd (zero-none (in-at n).1)
      where
        zero-none : {i : ℕ} → i < 0 → ⊥
        zero-none h = omega arith
left_in {c} (d ∷ cs) m =
    cond_ind (λ (l : List Candidate). In c l → In c (d ∷ cs) × (eqb c.mark failed ≡ false)) (eqb d.mark failed) (left cs) (d ∷ left cs)
    (λ e n. deeper (left_in cs n)) (λ e n. go e (λ k. left_in cs k) n) m
  where
    deeper : {b : Candidate} → In b cs × (eqb b.mark failed ≡ false) → In b (d ∷ cs) × (eqb b.mark failed ≡ false)
    deeper r = (there r.0, r.1)

    go : {b : Candidate} → eqb d.mark failed ≡ false → (In b (left cs) → In b cs × (eqb b.mark failed ≡ false)) → In b (d ∷ left cs)
        → In b (d ∷ cs) × (eqb b.mark failed ≡ false)
    go e ih here = (here, e)
    go e ih (there n) = deeper (ih n)

-- ---- nearest first
module _ (t : List ℕ) where
  beyond-in : {c : Candidate} {cs : List Candidate} {x : ℕ} → Beyond t x cs → In c cs → x < dist t c
  unfolding Beyond
  beyond-in b here = b.0
  beyond-in b (there m) = beyond-in b.1 m

  beyond-left : (x : ℕ) (cs : List Candidate) → Beyond t x cs → Beyond t x (left cs)
  unfolding Beyond left
  beyond-left x [] b = tt
  beyond-left x (c ∷ cs) b =
      cond_ind (Beyond t x) (eqb c.mark failed) (left cs) (c ∷ left cs) (λ e. beyond-left x cs b.1) (λ e. (b.0, beyond-left x cs b.1))

  rising-left : (cs : List Candidate) → Rising t cs → Rising t (left cs)
  unfolding Rising left
  rising-left [] r = tt
  rising-left (c ∷ cs) r =
      cond_ind (Rising t) (eqb c.mark failed) (left cs) (c ∷ left cs) (λ e. rising-left cs r.1) (λ e. (beyond-left (dist t c) cs r.0, rising-left cs r.1))

  -- none at the place of another
  pub alone : {c d : Candidate} {cs : List Candidate} → Rising t cs → In c cs → In d cs → c.place ≡ d.place → c ≡ d
  unfolding Rising
  alone r here here e = refl
  alone {c} {d} r here (there n) e = absurd (apart (beyond-in r.0 n) (ap (λ (p : List ℕ). distance p t) e))
    where
      apart : {x y : ℕ} → x < y → x ≡ y → ⊥
      apart a b = omega arith
  alone {c} {d} r (there m) here e = absurd (apart (beyond-in r.0 m) (ap (λ (p : List ℕ). distance p t) (sym e)))
    where
      apart : {x y : ℕ} → x < y → x ≡ y → ⊥
      apart a b = omega arith
  alone r (there m) (there n) e = alone r.1 m n e

  rising-at : (cs : List Candidate) → Rising t cs → (i j : ℕ) → i < j → j < length cs → dist t (get_or cs i nobody) < dist t (get_or cs j nobody)
  unfolding Rising
  rising-at [] r i j h k = absurd (omega arith)
  rising-at (c ∷ cs) r i zero h k = absurd (omega arith)
  rising-at (c ∷ cs) r zero (suc j) h k = beyond-in r.0 (at_in cs j (omega arith))
  rising-at (c ∷ cs) r (suc i) (suc j) h k = rising-at cs r.1 i j (omega arith) (omega arith)

  -- one of a rising list is among its first k, or these are k and each is nearer
  split : {c : Candidate} (k : ℕ) (cs : List Candidate) → Rising t cs → In c cs
      → In c (take k cs) ⊎ ((length (take k cs) ≡ k) × ((i : ℕ) → i < length (take k cs) → dist t (get_or (take k cs) i nobody) < dist t c))
  unfolding Rising
  split {c = c} (suc k) [] r m = elim m [ ]
  split zero cs r m = inr (refl, λ i h. absurd (none h))
    where
      none : {i : ℕ} → i < 0 → ⊥
      none h = omega arith
  split (suc k) (c ∷ cs) r here = inl here
  split {c} (suc k) (d ∷ cs) r (there m) =
      ⊎_elim (λ n. inl (there n)) (λ n. inr (ap suc n.0, nearer n.1)) (split k cs r.1 m)
    where
      nearer : ((i : ℕ) → i < length (take k cs) → dist t (get_or (take k cs) i nobody) < dist t c) → (i : ℕ) → i < suc (length (take k cs)) → dist t (get_or (d ∷ take k cs) i nobody) < dist t c
      nearer f zero h = beyond-in r.0 m
      nearer f (suc i) h = f i (omega arith)

  rising-take : (k : ℕ) (cs : List Candidate) → Rising t cs → (i j : ℕ) → i < j → j < length (take k cs) → dist t (get_or (take k cs) i nobody) < dist t (get_or (take k cs) j nobody)
  rising-take k cs r i j h g =
      let a : j < k = omega (arith, length-take k cs) in
      let b : j < length cs = omega (arith, length-take k cs) in
      subst (λ (c : Candidate). dist t c < dist t (get_or (take k cs) j nobody)) (sym (get_or-take k cs i nobody (omega arith)))
      (subst (λ (c : Candidate). dist t (get_or cs i nobody) < dist t c) (sym (get_or-take k cs j nobody a)) (rising-at cs r i j h b))

  -- ---- the places of the first twenty are the twenty nearest of those that pass, if these are the places of the candidates not failed
  module _ (passes : List ℕ → Bool) (cs : List Candidate) (order : nearest_first t cs ≡ true)
      (yes : (c : Candidate) → In c cs → eqb c.mark failed ≡ false → passes c.place ≡ true)
      (only : (p : List ℕ) → passes p ≡ true → (c : Candidate) × In c cs × (eqb c.mark failed ≡ false) × (c.place ≡ p)) where
    size : length (map place_of (twenty cs)) ≡ length (twenty cs)
    size = length-map (twenty cs) place_of

    up : Rising t (left cs)
    up = rising-left cs (rising t cs order)

    pub twenty-nearest : TwentyNearest passes t (map place_of (twenty cs))
    twenty-nearest =
        record {
          few = omega (arith, size, length-take most_near (left cs));
          pass = λ i h. let m = left_in cs (take_in most_near (left cs) (at_in (twenty cs) i (omega (arith, size)))) in ap passes (place_at (twenty cs) i (omega (arith, size))) ∙ yes (get_or (twenty cs) i nobody) m.0 m.1;
          order = λ i j h g. subst (λ (p : List ℕ). distance p t < distance (get_or (map place_of (twenty cs)) j []) t) (sym (place_at (twenty cs) i (omega (arith, size))))
              (subst (λ (p : List ℕ). dist t (get_or (twenty cs) i nobody) < distance p t) (sym (place_at (twenty cs) j (omega (arith, size)))) (rising-take most_near (left cs) up i j h (omega (arith, size))));
          rest = λ p h. found p (only p h);
        }
      where
        found : (p : List ℕ) → (c : Candidate) × In c cs × (eqb c.mark failed ≡ false) × (c.place ≡ p)
            → ((i : ℕ) × (i < length (map place_of (twenty cs))) × (get_or (map place_of (twenty cs)) i [] ≡ p))
            ⊎ ((length (map place_of (twenty cs)) ≡ most_near) × ((i : ℕ) → i < length (map place_of (twenty cs)) → distance (get_or (map place_of (twenty cs)) i []) t < distance p t))
        found p r =
            ⊎_elim
            (λ m. let k = in-at m in let g : k.0 < length (map place_of (twenty cs)) = omega (arith, k.1, size) in inl (k.0, g, place_at (twenty cs) k.0 k.1 ∙ ap place_of k.2 ∙ r.3))
            (λ n. inr (
              size ∙ n.0,
              λ i h. subst (λ (q : List ℕ). distance q t < distance p t) (sym (place_at (twenty cs) i (omega (arith, size))))
                  (subst (λ (q : List ℕ). dist t (get_or (twenty cs) i nobody) < distance q t) r.3 (n.1 i (omega (arith, size)))),
            ))
            (split most_near (left cs) up (in_left r.1 r.2))
