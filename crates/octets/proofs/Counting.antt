-- Laws of `count`. Assumes nothing.
use Prim.Native.Nat.{ℕ, zero, suc, ◌+◌, ◌<◌, ◌≤◌}
use mathlib.Core.Path.{◌≡◌, refl, sym, ap, ◌∙◌, subst}
use mathlib.Core.Logic.{◌⊎◌, inl, inr, ⊎_elim}
use mathlib.Core.Bool.{Bool, true, false, cond, not, ◌&&◌}
use native.Mathlib.Nat.{not-suc-le-zero, eq-or-lt_of_le, le_of_suc-le-suc}
use native.Mathlib.Omega.{arith}
use lib.Dec.{eqb}
use borrow.Author.Tests.{eqb-true, eqb-false, not-true}
use Rattle.octets.specs.Search.{count}
use Rattle.octets.proofs.Bools.{either, and_l, and_r, to-false}
use Rattle.octets.proofs.Searching.{count-zero}

-- what a test adds
abbrev pub bit : Bool → ℕ
bit b = cond b 1 0

pub bit-on : (b : Bool) → b ≡ true → bit b ≡ 1
bit-on b e = ap bit e

pub bit-off : (b : Bool) → b ≡ false → bit b ≡ 0
bit-off b e = ap bit e

module _ (p : ℕ → Bool) where
  pub count-suc : (n : ℕ) → count (suc n) p ≡ count n p + bit (p n)
  unfolding count
  count-suc n = refl

  pub count_none : (n : ℕ) → ((i : ℕ) → i < n → p i ≡ false) → count n p ≡ 0
  count_none zero h = count-zero p
  count_none (suc n) h = omega (arith, count-suc n, bit-off (p n) (h n (omega arith)), count_none n (λ i l. h i (omega arith)))

  pub count-one : (n j : ℕ) → j < n → p j ≡ true → ((i : ℕ) → i < n → p i ≡ true → i ≡ j) → count n p ≡ 1
  count-one zero j l e h = absurd (not-suc-le-zero l)
  count-one (suc n) j l e h =
      ⊎_elim (λ q. omega (arith, count-suc n, bit-on (p n) (subst (λ (k : ℕ). p k ≡ true) q e), count_none n (λ i li. to-false (p i) (λ y. far i li q (h i (omega arith) y)))))
      (λ lt. omega (arith, count-suc n, bit-off (p n) (to-false (p n) (λ y. near lt (h n (omega arith) y))), count-one n j lt e (λ i li y. h i (omega arith) y))) (eq-or-lt_of_le (le_of_suc-le-suc l))
    where
      far : (i : ℕ) → i < n → j ≡ n → i ≡ j → ⊥
      far i li q r = omega arith

      near : j < n → n ≡ j → ⊥
      near lt r = omega arith

pub count_add : (p q r : ℕ → Bool) (n : ℕ) → ((i : ℕ) → i < n → bit (p i) ≡ bit (q i) + bit (r i)) → count n p ≡ count n q + count n r
count_add p q r zero h = omega (arith, count-zero p, count-zero q, count-zero r)
count_add p q r (suc n) h = omega (arith, count-suc p n, count-suc q n, count-suc r n, h n (omega arith), count_add p q r n (λ i l. h i (omega arith)))

pub count_same : (p q : ℕ → Bool) (n : ℕ) → ((i : ℕ) → i < n → p i ≡ q i) → count n p ≡ count n q
count_same p q zero h = count-zero p ∙ sym (count-zero q)
count_same p q (suc n) h = omega (arith, count-suc p n, count-suc q n, ap bit (h n (omega arith)), count_same p q n (λ i l. h i (omega arith)))

-- two tests that exclude each other
pub count-split : (p q : ℕ → Bool) (n : ℕ) → count n p ≡ count n (λ i. p i && q i) + count n (λ i. p i && not (q i))
unfolding count
count-split p q zero = refl
count-split p q (suc n) = go (count-split p q n) (either (p n)) (either (q n))
  where
    A : ℕ
    A = count n (λ i. p i && q i)

    B : ℕ
    B = count n (λ i. p i && not (q i))

    go : count n p ≡ count n (λ i. p i && q i) + count n (λ i. p i && not (q i)) → (p n ≡ true) ⊎ (p n ≡ false) → (q n ≡ true) ⊎ (q n ≡ false)
        → count n p + cond (p n) 1 0 ≡ (count n (λ i. p i && q i) + cond (p n && q n) 1 0) + (count n (λ i. p i && not (q i)) + cond (p n && not (q n)) 1 0)
    go h (inl e) (inl f) = rw (e, f) (omega arith)
    go h (inl e) (inr f) = rw (e, f) (omega arith)
    go h (inr e) f = rw e (omega arith)

-- at most one passes
pub count_most : (p : ℕ → Bool) (n : ℕ) → ((i j : ℕ) → i < n → j < n → p i ≡ true → p j ≡ true → i ≡ j) → count n p ≤ 1
count_most p zero h = rw (count_none p zero (λ i l. absurd (not-suc-le-zero l))) (omega arith)
count_most p (suc n) h = ⊎_elim last (λ e. rw (count-suc p n, e) (omega (arith, count_most p n (λ i j a b u v. h i j (omega arith) (omega arith) u v)))) (either (p n))
  where
    off : (i : ℕ) → i < n → i ≡ n → ⊥
    off i l e = omega arith

    last : p n ≡ true → count (suc n) p ≤ 1
    last e =
        let z : count n p ≡ 0 = count_none p n (λ i l. to-false (p i) (λ u. off i l (h i n (omega arith) (omega arith) u e))) in
        rw (count-suc p n, e) (omega arith)

-- as many as there are values, where no two have the same value
pub count-values : (m n : ℕ) (p : ℕ → Bool) (f : ℕ → ℕ) → ((i : ℕ) → i < n → p i ≡ true → f i < m)
    → ((i j : ℕ) → i < n → j < n → p i ≡ true → p j ≡ true → f i ≡ f j → i ≡ j) → count n p ≤ m
count-values zero n p f low one = rw (count_none p n (λ i l. to-false (p i) (λ u. absurd (not-suc-le-zero (low i l u))))) (omega arith)
count-values (suc m) n p f low one =
    let top : ℕ → Bool = λ i. eqb (f i) m in
    let a : count n (λ i. p i && eqb (f i) m) ≤ 1 =
    count_most (λ i. p i && eqb (f i) m) n
    (λ i j li lj u v. one i j li lj (and_l (p i) (eqb (f i) m) u) (and_l (p j) (eqb (f j) m) v) (eqb-true (f i) m (and_r (p i) (eqb (f i) m) u) ∙ sym (eqb-true (f j) m (and_r (p j) (eqb (f j) m) v)))) in
    let b : count n (λ i. p i && not (eqb (f i) m)) ≤ m =
    count-values m n (λ i. p i && not (eqb (f i) m)) f
    (λ i l u. under (low i l (and_l (p i) (not (eqb (f i) m)) u)) (eqb-false (f i) m (not-true (eqb (f i) m) (and_r (p i) (not (eqb (f i) m)) u))))
    (λ i j li lj u v. one i j li lj (and_l (p i) (not (eqb (f i) m)) u) (and_l (p j) (not (eqb (f j) m)) v)) in
    omega (arith, count-split p (λ i. eqb (f i) m) n)
  where
    under : {x : ℕ} → x < suc m → (x ≡ m → ⊥) → x < m
    under l ne = omega arith
