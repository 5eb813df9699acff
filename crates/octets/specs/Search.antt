-- Tests and searches over the numbers below n, and over the elements of a list.
use Rattle.std.specs.Prelude.{ℕ, zero, suc, ◌+◌, max, Bool, true, false, cond, ◌&&◌, ◌||◌, List, [], ◌∷◌, ltb}

-- every number below n passes
unfoldable pub all : ℕ → (ℕ → Bool) → Bool
all zero p = true
all (suc n) p = p n && all n p

-- some number below n passes
unfoldable pub some : ℕ → (ℕ → Bool) → Bool
some zero p = false
some (suc n) p = p n || some n p

-- the lowest number below n that passes, or n where none does
unfoldable pub first : ℕ → (ℕ → Bool) → ℕ
first zero p = zero
first (suc n) p = cond (ltb (first n p) n) (first n p) (cond (p n) n (suc n))

-- how many numbers below n pass
unfoldable pub count : ℕ → (ℕ → Bool) → ℕ
count zero p = zero
count (suc n) p = count n p + cond (p n) 1 0

-- the largest value of f below n, or 0 where there is none
unfoldable pub largest : ℕ → (ℕ → ℕ) → ℕ
largest zero f = zero
largest (suc n) f = max (largest n f) (f n)

-- every element of a list passes
unfoldable pub every : {A : Type 0} → (A → Bool) → List A → Bool
every p [] = true
every p (x ∷ l) = p x && every p l

-- every test of a list holds: a long conjunction, one test to a line
unfoldable pub all_of : List Bool → Bool
all_of [] = true
all_of (b ∷ bs) = b && all_of bs

-- the last element of a list, or d where there is none
unfoldable pub last_of : {A : Type 0} → A → List A → A
last_of d [] = d
last_of d (x ∷ l) = last_of x l

-- ---- in a list
-- the place of the first element that passes, or the length where none does
unfoldable pub first_in : {A : Type 0} → (A → Bool) → List A → ℕ
first_in p [] = 0
first_in p (x ∷ l) = cond (p x) 0 (suc (first_in p l))

-- some element passes
unfoldable pub any_in : {A : Type 0} → (A → Bool) → List A → Bool
any_in p [] = false
any_in p (x ∷ l) = p x || any_in p l
