-- Laws of `same`, `lower` and `starts_with`. Assumes nothing.
use Prim.Native.Nat.{ℕ, ◌<◌, ◌≤◌}
use mathlib.Core.Path.{◌≡◌, refl, sym, ap, ◌∙◌, subst}
use mathlib.Core.Logic.{◌⊎◌, inl, inr, ⊎_elim}
use mathlib.Core.Bool.{Bool, true, false, ◌&&◌, ◌||◌}
use mathlib.Core.List.{List, [], ◌∷◌, ◌++◌}
use native.Mathlib.Omega.{arith}
use lib.Dec.{ltb, eqb, T}
use lib.Pointwise.{pointwise}
use lib.ListN.{length, get_or, take, drop, drop_of_length-le}
use lib.Seq.{drop-cons}
use borrow.Author.Tests.{lt-ltb, le-ltb, ltb-true, ltb-false, eq-eqb, ne_eqb, eqb-true}
use Rattle.std.specs.Ordering.{nat_cmp, is_lt}
use Rattle.std.specs.declared.cmp.Ordering.{Ordering}
use Rattle.std.specs.Cmp.Lexicographic.{slice_cmp}
use Rattle.std.proofs.lemmas.Bool.Decides.{nat_tests}
use Rattle.std.proofs.lemmas.Cmp.{same_from_slice_cmp}
use Rattle.octets.specs.Octets.{same, lower, starts_with}
use Rattle.octets.proofs.Bools.{and_l, and_r, and_i, or-e, or_l, not-both, to-false, either}

-- ---- same
pub same_refl : (a : List ℕ) → same a a ≡ true
unfolding same
same_refl [] = refl
same_refl (x ∷ a) = and_i (eqb x x) (same a a) (eq-eqb x x refl) (same_refl a)

pub same-eq : (a b : List ℕ) → same a b ≡ true → a ≡ b
unfolding same
same-eq [] [] e = refl
same-eq [] (y ∷ b) e = absurd (subst T (sym e) tt)
same-eq (x ∷ a) [] e = absurd (subst T (sym e) tt)
same-eq (x ∷ a) (y ∷ b) e =
    let p : x ≡ y = eqb-true x y (and_l (eqb x y) (same a b) e) in
    let q : a ≡ b = same-eq a b (and_r (eqb x y) (same a b) e) in
    cc

pub same-yes : (a b : List ℕ) → a ≡ b → same a b ≡ true
same-yes a b e = subst (λ (s : List ℕ). same a s ≡ true) e (same_refl a)

pub same-no : (a b : List ℕ) → (a ≡ b → ⊥) → same a b ≡ false
same-no a b h = to-false (same a b) (λ e. h (same-eq a b e))

pub differ : (a b : List ℕ) → same a b ≡ false → a ≡ b → ⊥
differ a b h e = not-both (same a b) (same-yes a b e) h

pub same-sym : (a b : List ℕ) → same a b ≡ same b a
same-sym a b = ⊎_elim (λ e. e ∙ sym (same-yes b a (sym (same-eq a b e)))) (λ e. e ∙ sym (same-no b a (λ q. differ a b e (sym q)))) (either (same a b))

pub same_size : (a b : List ℕ) → (length a ≡ length b → ⊥) → same a b ≡ false
same_size a b h = same-no a b (λ e. h (ap length e))

-- a common start is passed over
pub same-append : (c a b : List ℕ) → same (c ++ a) (c ++ b) ≡ same a b
unfolding same
same-append [] a b = refl
same-append (x ∷ c) a b = rw (eq-eqb x x refl) (same-append c a b)

-- from i on, as a loop finds it out
module _ (a b : List ℕ) (i : ℕ) where
  pub same_end : length a ≤ i → length b ≤ i → same (drop i a) (drop i b) ≡ true
  unfolding same
  same_end h g = rw (drop_of_length-le a h, drop_of_length-le b g)

  pub same_stop : i < length a → i < length b → (get_or a i 0 ≡ get_or b i 0 → ⊥) → same (drop i a) (drop i b) ≡ false
  unfolding same
  same_stop ha hb e = rw (drop-cons a i 0 ha, drop-cons b i 0 hb, ne_eqb (get_or a i 0) (get_or b i 0) e)

-- what the library's `==` of two slices says
pub same-pointwise : (a b : List ℕ) → pointwise eqb a b ≡ same a b
unfolding same
same-pointwise [] [] = refl
same-pointwise [] (y ∷ b) = refl
same-pointwise (x ∷ a) [] = refl
same-pointwise (x ∷ a) (y ∷ b) = ap (λ (r : Bool). eqb x y && r) (same-pointwise a b)

-- ---- an order by a number first, then by the rest: the step of bytewise order, and of any rank above it
abbrev pub before : ℕ → ℕ → Bool → Bool
before m n rest = ltb m n || (eqb m n && rest)

pub before-less : (m n : ℕ) (r : Bool) → m < n → before m n r ≡ true
before-less m n r h = or_l (ltb m n) _ (lt-ltb m n h)

pub before_same : (m n : ℕ) (r : Bool) → m ≡ n → before m n r ≡ r
before_same m n r e = let p : n ≤ m = omega arith in rw (le-ltb m n p, eq-eqb m n e)

pub before_more : (m n : ℕ) (r : Bool) → n < m → before m n r ≡ false
before_more m n r h = let z : m ≡ n → ⊥ = λ e. omega arith in rw (le-ltb m n (omega arith), ne_eqb m n z)

pub before-out : (m n : ℕ) (r : Bool) → before m n r ≡ true → (m < n) ⊎ ((m ≡ n) × (r ≡ true))
before-out m n r h = ⊎_elim (λ a. inl (ltb-true m n a)) (λ a. inr (eqb-true m n (and_l (eqb m n) r a), and_r (eqb m n) r a)) (or-e (ltb m n) (eqb m n && r) h)

pub three : (m n : ℕ) → (m < n) ⊎ ((n < m) ⊎ (m ≡ n))
three m n =
    ⊎_elim (λ a. inl (ltb-true m n a)) (λ a. ⊎_elim (λ b. inr (inl (ltb-true n m b))) (λ b. inr (inr (eq (ltb-false m n a) (ltb-false n m b)))) (either (ltb n m)))
    (either (ltb m n))
  where
    eq : n ≤ m → m ≤ n → m ≡ n
    eq p q = omega arith

pub before-asym : (m n : ℕ) (r q : Bool) → (r ≡ true → q ≡ true → ⊥) → before m n r ≡ true → before n m q ≡ true → ⊥
before-asym m n r q nope a b = by (before-out m n r a) (before-out n m q b)
  where
    by : (m < n) ⊎ ((m ≡ n) × (r ≡ true)) → (n < m) ⊎ ((n ≡ m) × (q ≡ true)) → ⊥
    by (inl x) (inl y) = omega arith
    by (inl x) (inr y) = omega (arith, y.0)
    by (inr x) (inl y) = omega (arith, x.0)
    by (inr x) (inr y) = nope x.1 y.1

pub before-trans : (l m n : ℕ) (p q r : Bool) → (p ≡ true → q ≡ true → r ≡ true) → before l m p ≡ true → before m n q ≡ true → before l n r ≡ true
before-trans l m n p q r t a b = by (before-out l m p a) (before-out m n q b)
  where
    by : (l < m) ⊎ ((l ≡ m) × (p ≡ true)) → (m < n) ⊎ ((m ≡ n) × (q ≡ true)) → before l n r ≡ true
    by (inl x) (inl y) = before-less l n r (omega arith)
    by (inl x) (inr y) = before-less l n r (omega (arith, y.0))
    by (inr x) (inl y) = before-less l n r (omega (arith, x.0))
    by (inr x) (inr y) = before_same l n r (x.0 ∙ y.0) ∙ t x.1 y.1

-- equal where neither comes first, if the rest then says so
pub before-total : (m n : ℕ) (r q : Bool) → before m n r ≡ false → before n m q ≡ false → (m ≡ n) × (r ≡ false) × (q ≡ false)
before-total m n r q a b =
    ⊎_elim (λ h. absurd (not-both (before m n r) (before-less m n r h) a))
    (λ g. ⊎_elim (λ h. absurd (not-both (before n m q) (before-less n m q h) b)) (λ e. (e, sym (before_same m n r e) ∙ a, sym (before_same n m q (sym e)) ∙ b)) g)
    (three m n)

-- ---- lower: a strict total order
-- the library's order of two slices
pub lower-cmp : (a b : List ℕ) (r : Ordering) → r ≡ slice_cmp nat_cmp a b → is_lt r ≡ lower a b
unfolding lower
lower-cmp = same_from_slice_cmp nat_cmp is_lt lower refl (λ _ _. refl) (λ _ _. refl) (λ x y xs ys o h. grind (arith, nat_tests))

pub lower-asym : (a b : List ℕ) → lower a b ≡ true → lower b a ≡ true → ⊥
unfolding lower
lower-asym [] [] p q = not-both false p refl
lower-asym [] (y ∷ b) p q = not-both false q refl
lower-asym (x ∷ a) [] p q = not-both false p refl
lower-asym (x ∷ a) (y ∷ b) p q = before-asym x y (lower a b) (lower b a) (λ r s. lower-asym a b r s) p q

lower-nothing : (s : List ℕ) → lower s [] ≡ false
unfolding lower
lower-nothing [] = refl
lower-nothing (x ∷ s) = refl

pub lower-trans : (a b c : List ℕ) → lower a b ≡ true → lower b c ≡ true → lower a c ≡ true
unfolding lower
lower-trans a [] c p q = absurd (not-both (lower a []) p (lower-nothing a))
lower-trans a (y ∷ b) [] p q = absurd (not-both false q refl)
lower-trans [] (y ∷ b) (z ∷ c) p q = refl
lower-trans (x ∷ a) (y ∷ b) (z ∷ c) p q = before-trans x y z (lower a b) (lower b c) (lower a c) (λ r s. lower-trans a b c r s) p q

pub lower-total : (a b : List ℕ) → lower a b ≡ false → lower b a ≡ false → a ≡ b
unfolding lower
lower-total [] [] p q = refl
lower-total [] (y ∷ b) p q = absurd (not-both true refl p)
lower-total (x ∷ a) [] p q = absurd (not-both true refl q)
lower-total (x ∷ a) (y ∷ b) p q =
    let t = before-total x y (lower a b) (lower b a) p q in
    let r : a ≡ b = lower-total a b t.1 t.2 in
    let s : x ≡ y = t.0 in
    cc

pub lower-irrefl : (a : List ℕ) → lower a a ≡ false
lower-irrefl a = to-false (lower a a) (λ h. lower-asym a a h h)

-- from i on, as a loop finds it out
module _ (a b : List ℕ) (i : ℕ) where
  pub lower-short : length b ≤ i → lower (drop i a) (drop i b) ≡ false
  lower-short h = rw (drop_of_length-le b h) (lower-nothing (drop i a))

  pub lower_long : length a ≤ i → i < length b → lower (drop i a) (drop i b) ≡ true
  unfolding lower
  lower_long h g = rw (drop_of_length-le a h, drop-cons b i 0 g)

  -- where a has ended, it is lower if b has not
  pub lower_last : length a ≤ i → lower (drop i a) (drop i b) ≡ ltb i (length b)
  lower_last h = ⊎_elim (λ t. lower_long h (ltb-true i (length b) t) ∙ sym t) (λ t. lower-short (ltb-false i (length b) t) ∙ sym t) (either (ltb i (length b)))

-- ---- starts_with
pub starts-eq : (s p : List ℕ) → starts_with s p ≡ true → take (length p) s ≡ p
unfolding starts_with
starts-eq s p h = same-eq (take (length p) s) p h

-- where the library asks it the other way round
pub starts-pointwise : (s p : List ℕ) → pointwise eqb p (take (length p) s) ≡ starts_with s p
unfolding starts_with
starts-pointwise s p = same-pointwise p (take (length p) s) ∙ same-sym p (take (length p) s)
