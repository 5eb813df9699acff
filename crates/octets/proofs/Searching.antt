-- Laws of `all`, `some`, `first`, `largest`, `every` and `last_of`. Assumes nothing.
use Prim.Native.Nat.{ℕ, zero, suc, ◌+◌, ◌<◌, ◌≤◌, max}
use mathlib.Core.Path.{◌≡◌, refl, sym, ap, ◌∙◌, subst}
use mathlib.Core.Logic.{◌⊎◌, inl, inr, ⊎_elim}
use mathlib.Core.Bool.{Bool, true, false, cond, ◌&&◌}
use mathlib.Core.List.{List, [], ◌∷◌, ◌++◌, map}
use native.Mathlib.Nat.{eq-or-lt_of_le, le_of_suc-le-suc, not-suc-le-zero, lt-suc_self}
use native.Mathlib.Numerals.{add-one}
use native.Mathlib.Omega.{arith}
use lib.Dec.{ltb, T}
use borrow.Author.Tests.{lt-ltb, le-ltb, ltb-true, ltb-false}
use Rattle.octets.specs.Search.{all, some, first, count, largest, every, last_of}
use Rattle.octets.proofs.Bools.{and_l, and_r, and_i, and_assoc, and-swap, or-e, or_l, or_r, not-both, to-false, either}

module _ (p : ℕ → Bool) where
  -- ---- all
  pub all-zero : all zero p ≡ true
  unfolding all
  all-zero = refl

  all-suc : (i : ℕ) → all i p ≡ true → p i ≡ true → all (suc i) p ≡ true
  unfolding all
  all-suc i h e = and_i (p i) (all i p) e h

  pub all_more : (i : ℕ) → all i p ≡ true → p i ≡ true → all (i + 1) p ≡ true
  all_more i h e = rw (add-one i) (all-suc i h e)

  pub all-at : (n i : ℕ) → all n p ≡ true → i < n → p i ≡ true
  unfolding all
  all-at zero i h l = absurd (not-suc-le-zero l)
  all-at (suc n) i h l =
      ⊎_elim (λ e. rw e (and_l (p n) (all n p) h)) (λ lt. all-at n i (and_r (p n) (all n p) h) lt) (eq-or-lt_of_le (le_of_suc-le-suc l))

  pub all-intro : (n : ℕ) → ((i : ℕ) → i < n → p i ≡ true) → all n p ≡ true
  all-intro zero h = all-zero
  all-intro (suc n) h = all-suc n (all-intro n (λ i l. h i (omega arith))) (h n (omega arith))

  -- the lowest number by itself
  pub all_first : (n : ℕ) → all (suc n) p ≡ (p 0 && all n (λ i. p (suc i)))
  unfolding all
  all_first zero = refl
  all_first (suc n) = ap (λ (b : Bool). p (suc n) && b) (all_first n) ∙ and-swap (p (suc n)) (p 0) (all n (λ i. p (suc i)))

  pub all-fails : (n i : ℕ) → i < n → p i ≡ false → all n p ≡ false
  all-fails n i l e = to-false (all n p) (λ h. not-both (p i) (all-at n i h l) e)

  -- ---- some
  pub some_at : (n : ℕ) → some n p ≡ true → (i : ℕ) × (i < n) × (p i ≡ true)
  unfolding some
  some_at zero h = absurd (subst T (sym h) tt)
  some_at (suc n) h =
      ⊎_elim (λ e. (n, lt-suc_self n, e)) (λ e. let r = some_at n e in (r.0, omega (arith, r.1), r.2)) (or-e (p n) (some n p) h)

  pub some-intro : (n i : ℕ) → i < n → p i ≡ true → some n p ≡ true
  unfolding some
  some-intro zero i l e = absurd (not-suc-le-zero l)
  some-intro (suc n) i l e =
      ⊎_elim (λ q. or_l (p n) (some n p) (rw q at e)) (λ lt. or_r (p n) (some n p) (some-intro n i lt e)) (eq-or-lt_of_le (le_of_suc-le-suc l))

  -- ---- first
  first_found : (n : ℕ) → first n p < n → first (suc n) p ≡ first n p
  unfolding first
  first_found n h = rw (lt-ltb (first n p) n h)

  first-here : (n : ℕ) → n ≤ first n p → p n ≡ true → first (suc n) p ≡ n
  unfolding first
  first-here n h e = rw (le-ltb (first n p) n h, e)

  first_past : (n : ℕ) → n ≤ first n p → p n ≡ false → first (suc n) p ≡ suc n
  unfolding first
  first_past n h e = rw (le-ltb (first n p) n h, e)

  pub first-zero : first zero p ≡ zero
  unfolding first
  first-zero = refl

  -- what it is, in one record: at most n, nothing below it passes, and it passes unless it is n
  pub record First (n i : ℕ) : Type 0 where
    pub within : i ≤ n
    pub before : (j : ℕ) → j < i → p j ≡ false
    pub here : i < n → p i ≡ true

  pub first-is : (n : ℕ) → First n (first n p)
  first-is zero = rw first-zero (record { within = omega arith; before = λ j l. absurd (not-suc-le-zero l); here = λ l. absurd (not-suc-le-zero l) })
  first-is (suc n) = go (first-is n) (either (ltb (first n p) n)) (either (p n))
    where
      below : First n (first n p) → (j : ℕ) → n ≤ first n p → j < suc n → p n ≡ false → p j ≡ false
      below r j f l e = ⊎_elim (λ q. rw q e) (λ lt. r.before j (omega arith)) (eq-or-lt_of_le (le_of_suc-le-suc l))

      go : First n (first n p) → (ltb (first n p) n ≡ true) ⊎ (ltb (first n p) n ≡ false) → (p n ≡ true) ⊎ (p n ≡ false) → First (suc n) (first (suc n) p)
      go r (inl t) e =
          let l : first n p < n = ltb-true (first n p) n t in
          rw (first_found n l) (record { within = omega arith; before = r.before; here = λ _. r.here l })
      go r (inr t) (inl e) =
          let f : n ≤ first n p = ltb-false (first n p) n t in
          rw (first-here n f e) (record { within = omega arith; before = λ j l. r.before j (omega arith); here = λ _. e })
      go r (inr t) (inr e) =
          let f : n ≤ first n p = ltb-false (first n p) n t in
          rw (first_past n f e) (record { within = omega arith; before = λ j l. below r j f l e; here = λ l. absurd (bad l) })
        where
          bad : {m : ℕ} → m < m → ⊥
          bad l = omega arith

  -- there is only one such
  pub first-unique : (n i j : ℕ) → First n i → First n j → i ≡ j
  first-unique n i j a b = go (either (ltb i j)) (either (ltb j i))
    where
      clash : (x y : ℕ) → First n x → First n y → x < y → ⊥
      clash x y u v l = not-both (p x) (u.here (omega (arith, v.within))) (v.before x l)

      go : (ltb i j ≡ true) ⊎ (ltb i j ≡ false) → (ltb j i ≡ true) ⊎ (ltb j i ≡ false) → i ≡ j
      go (inl t) s = absurd (clash i j a b (ltb-true i j t))
      go (inr t) (inl s) = absurd (clash j i b a (ltb-true j i s))
      go (inr t) (inr s) = omega (arith, ltb-false i j t, ltb-false j i s)

  pub first_of : (n i : ℕ) → First n i → i ≡ first n p
  first_of n i r = first-unique n i (first n p) r (first-is n)

  -- hit at i, and missed everywhere, as a loop finds them out
  pub first-hit : (n i : ℕ) → i < n → ((j : ℕ) → j < i → p j ≡ false) → p i ≡ true → i ≡ first n p
  first-hit n i l h e = first_of n i (record { within = omega arith; before = h; here = λ _. e })

  pub first-miss : (n : ℕ) → ((j : ℕ) → j < n → p j ≡ false) → n ≡ first n p
  first-miss n h = first_of n n (record { within = omega arith; before = h; here = λ l. absurd (bad l) })
    where
      bad : n < n → ⊥
      bad l = omega arith

  pub first-le : (n : ℕ) → first n p ≤ n
  first-le n = (first-is n).within

  -- found exactly where some number passes
  pub first-lt : (n i : ℕ) → i < n → p i ≡ true → first n p < n
  first-lt n i l e = ⊎_elim (λ t. ltb-true (first n p) n t) (λ t. absurd (not-both (p i) e ((first-is n).before i (omega (arith, ltb-false (first n p) n t))))) (either (ltb (first n p) n))

-- tests that agree below n have the same first
pub first-same : (p q : ℕ → Bool) (n : ℕ) → ((i : ℕ) → i < n → p i ≡ q i) → first n p ≡ first n q
first-same p q n h =
    first_of q n (first n p)
    (record {
      within = (first-is p n).within;
      before = λ j l. sym (h j (omega (arith, (first-is p n).within))) ∙ (first-is p n).before j l;
      here = λ l. sym (h (first n p) l) ∙ (first-is p n).here l;
    })

pub all_same : (p q : ℕ → Bool) (n : ℕ) → ((i : ℕ) → i < n → p i ≡ q i) → all n p ≡ all n q
unfolding all
all_same p q zero h = refl
all_same p q (suc n) h = rw (h n (omega arith), all_same p q n (λ i l. h i (omega arith)))

-- ---- largest
module _ (f : ℕ → ℕ) where
  pub largest-zero : largest zero f ≡ zero
  unfolding largest
  largest-zero = refl

  pub largest-more : (n : ℕ) → largest (n + 1) f ≡ max (largest n f) (f n)
  unfolding largest
  largest-more n = rw (add-one n)

  pub largest-le : (n i : ℕ) → i < n → f i ≤ largest n f
  unfolding largest
  largest-le zero i l = absurd (not-suc-le-zero l)
  largest-le (suc n) i l =
      ⊎_elim (λ e. rw e (omega arith)) (λ lt. omega (arith, largest-le n i lt)) (eq-or-lt_of_le (le_of_suc-le-suc l))

  -- a bound of all is a bound of the largest
  pub largest-most : (n m : ℕ) → ((i : ℕ) → i < n → f i ≤ m) → largest n f ≤ m
  unfolding largest
  largest-most zero m h = omega arith
  largest-most (suc n) m h = omega (arith, largest-most n m (λ i l. h i (omega arith)), h n (omega arith))

  -- it is taken somewhere, unless it is 0
  pub largest-at : (n : ℕ) → 0 < largest n f → (i : ℕ) × (i < n) × (f i ≡ largest n f)
  unfolding largest
  largest-at zero h = absurd (not-suc-le-zero h)
  largest-at (suc n) h = go (λ l. largest-at n l) (either (ltb (largest n f) (f n)))
    where
      go : (0 < largest n f → (i : ℕ) × (i < n) × (f i ≡ largest n f)) → (ltb (largest n f) (f n) ≡ true) ⊎ (ltb (largest n f) (f n) ≡ false) → (i : ℕ) × (i < suc n) × (f i ≡ max (largest n f) (f n))
      go ih (inl t) = (n, lt-suc_self n, omega (arith, ltb-true (largest n f) (f n) t))
      go ih (inr t) = let q : f n ≤ largest n f = ltb-false (largest n f) (f n) t in let r = ih (omega arith) in (r.0, omega (arith, r.1), omega (arith, r.2))

pub largest-same : (f g : ℕ → ℕ) (n : ℕ) → ((i : ℕ) → i < n → f i ≡ g i) → largest n f ≡ largest n g
unfolding largest
largest-same f g zero h = refl
largest-same f g (suc n) h = rw (h n (omega arith), largest-same f g n (λ i l. h i (omega arith)))

-- ---- count
module _ (p : ℕ → Bool) where
  pub count-zero : count zero p ≡ zero
  unfolding count
  count-zero = refl

  pub count_yes : (n : ℕ) → p n ≡ true → count (n + 1) p ≡ count n p + 1
  unfolding count
  count_yes n e = rw (add-one n, e)

  pub count_no : (n : ℕ) → p n ≡ false → count (n + 1) p ≡ count n p
  unfolding count
  count_no n e = rw (add-one n, e) (omega arith)

  pub count-le : (n : ℕ) → count n p ≤ n
  unfolding count
  count-le zero = omega arith
  count-le (suc n) = go (count-le n) (either (p n))
    where
      go : count n p ≤ n → (p n ≡ true) ⊎ (p n ≡ false) → count n p + cond (p n) 1 0 ≤ suc n
      go h (inl e) = rw e (omega arith)
      go h (inr e) = rw e (omega arith)

-- ---- every
module _ {A : Type 0} (p : A → Bool) where
  pub every-nil : every p [] ≡ true
  unfolding every
  every-nil = refl

  pub every-cons : (x : A) (l : List A) → p x ≡ true → every p l ≡ true → every p (x ∷ l) ≡ true
  unfolding every
  every-cons x l e h = and_i (p x) (every p l) e h

  pub every-head : (x : A) (l : List A) → every p (x ∷ l) ≡ true → p x ≡ true
  unfolding every
  every-head x l h = and_l (p x) (every p l) h

  pub every-tail : (x : A) (l : List A) → every p (x ∷ l) ≡ true → every p l ≡ true
  unfolding every
  every-tail x l h = and_r (p x) (every p l) h

  pub every_append : (l m : List A) → every p l ≡ true → every p m ≡ true → every p (l ++ m) ≡ true
  every_append [] m h g = g
  every_append (x ∷ l) m h g = every-cons x (l ++ m) (every-head x l h) (every_append l m (every-tail x l h) g)

-- ---- last_of
pub last-map : {A B : Type 0} (g : A → B) (d : A) (l : List A) → g (last_of d l) ≡ last_of (g d) (map g l)
unfolding last_of
last-map g d [] = refl
last-map g d (x ∷ l) = last-map g x l

pub last-append : {A : Type 0} (d : A) (l m : List A) → last_of d (l ++ m) ≡ last_of (last_of d l) m
unfolding last_of
last-append d [] m = refl
last-append d (x ∷ l) m = last-append x l m

-- ---- every, of joined lists
pub every-append-is : {A : Type 0} (p : A → Bool) (l m : List A) → every p (l ++ m) ≡ (every p l && every p m)
unfolding every
every-append-is p [] m = refl
every-append-is p (x ∷ l) m = rw (every-append-is p l m) (and_assoc (p x) (every p l) (every p m))

-- ---- a search from 0 on
pub none_yet : (p : ℕ → Bool) (j : ℕ) → j < 0 → p j ≡ false
none_yet p j l = absurd (not-suc-le-zero l)

pub none_more : (p : ℕ → Bool) (i : ℕ) → ((j : ℕ) → j < i → p j ≡ false) → p i ≡ false → (j : ℕ) → j < i + 1 → p j ≡ false
none_more p i h e j l = ⊎_elim (λ q. ap p q ∙ e) (λ lt. h j lt) (eq-or-lt_of_le below)
  where
    below : j ≤ i
    below = omega arith

pub found : (p : ℕ → Bool) (n m i : ℕ) → m ≡ n → i < m → ((j : ℕ) → j < i → p j ≡ false) → p i ≡ true → i ≡ first n p
found p n m i e l h q = first-hit p n i (omega arith) h q

pub not_found : (p : ℕ → Bool) (n m i : ℕ) → m ≡ n → m ≤ i → ((j : ℕ) → j < i → p j ≡ false) → m ≡ first n p
not_found p n m i e l h = e ∙ first-miss p n (λ j lj. h j (omega arith))
