-- Laws of `first_in`, and of a loop over the first n elements of a list, which looks for one or maps all into an array. Assumes nothing.
use Prim.Native.Nat.{ℕ, suc, ◌+◌, ◌≤◌, ◌<◌}
use mathlib.Core.Path.{◌≡◌, refl, sym, ap, ◌∙◌}
use mathlib.Core.Bool.{Bool, true, false, cond}
use mathlib.Core.List.{List, [], ◌∷◌, ◌++◌, map}
use native.Mathlib.Omega.{arith}
use native.Mathlib.Numerals.{add-one}
use lib.ListN.{length, get_or, take, drop, set, length-take, length-set, drop_of_length-le}
use lib.Seq.{drop-cons, get_or-take, length-take-le, take-suc, take_all, take-suc-set}
use Rattle.octets.proofs.Bools.{cond_yes, cond_no, cond_ind}
use Rattle.octets.specs.Search.{first_in}

module _ {A : Type 0} where
  -- ---- the first n of a list, from i on
  pub one_on : (n : ℕ) (xs : List A) (i : ℕ) (d : A) → i < n → n ≤ length xs → drop i (take n xs) ≡ get_or xs i d ∷ drop (i + 1) (take n xs)
  one_on n xs i d h hn =
      let hl : i < length (take n xs) = rw (length-take-le n xs hn) h in
      rw (add-one, drop-cons (take n xs) i d hl, get_or-take n xs i d h)

  pub at-end : (n : ℕ) (xs : List A) (i : ℕ) → n ≤ i → drop i (take n xs) ≡ []
  at-end n xs i h = let l : length (take n xs) ≤ i = omega (arith, length-take n xs) in drop_of_length-le (take n xs) l

  -- ---- firstIn
  module _ (p : A → Bool) where
    pub first-nil : first_in p [] ≡ 0
    unfolding first_in
    first-nil = refl

    pub first-here : (x : A) (l : List A) → p x ≡ true → first_in p (x ∷ l) ≡ 0
    unfolding first_in
    first-here x l e = cond_yes (p x) 0 (suc (first_in p l)) e

    pub first_past : (x : A) (l : List A) → p x ≡ false → first_in p (x ∷ l) ≡ suc (first_in p l)
    unfolding first_in
    first_past x l e = cond_no (p x) 0 (suc (first_in p l)) e

    pub first-le : (l : List A) → first_in p l ≤ length l
    unfolding first_in
    first-le [] = omega arith
    first-le (x ∷ l) = go (first-le l)
      where
        go : first_in p l ≤ length l → cond (p x) 0 (suc (first_in p l)) ≤ suc (length l)
        go h = cond_ind (λ (m : ℕ). m ≤ suc (length l)) (p x) 0 (suc (first_in p l)) (λ e. omega arith) (λ e. omega arith)

    -- the loop that looks for it
    pub seek_hit : (n : ℕ) (xs : List A) (i : ℕ) (d : A) (b : Bool) (W : ℕ) → n ≤ length xs → i < n → b ≡ p (get_or xs i d) → b ≡ true
        → i + first_in p (drop i (take n xs)) ≡ W → i ≡ W
    seek_hit n xs i d b W hn h q t e =
        let y : first_in p (drop i (take n xs)) ≡ 0 =
        ap (first_in p) (one_on n xs i d h hn) ∙ first-here (get_or xs i d) (drop (i + 1) (take n xs)) (sym q ∙ t) in
        omega arith

    pub seek-miss : (n : ℕ) (xs : List A) (i : ℕ) (d : A) (b : Bool) (W : ℕ) → n ≤ length xs → i < n → b ≡ p (get_or xs i d) → b ≡ false
        → i + first_in p (drop i (take n xs)) ≡ W → i + 1 + first_in p (drop (i + 1) (take n xs)) ≡ W
    seek-miss n xs i d b W hn h q t e =
        let y : first_in p (drop i (take n xs)) ≡ suc (first_in p (drop (i + 1) (take n xs))) =
        ap (first_in p) (one_on n xs i d h hn) ∙ first_past (get_or xs i d) (drop (i + 1) (take n xs)) (sym q ∙ t) in
        omega arith

    pub seek-end : (n : ℕ) (xs : List A) (i : ℕ) (W : ℕ) → n ≤ i → i ≤ n → i + first_in p (drop i (take n xs)) ≡ W → n ≡ W
    seek-end n xs i W h k e =
        let y : first_in p (drop i (take n xs)) ≡ 0 = ap (first_in p) (at-end n xs i h) ∙ first-nil in
        omega arith

-- ---- map, into an array
module _ {A : Type 0} (f : A → ℕ) where
  map_snoc : (xs : List A) (x : A) → map f (xs ++ (x ∷ [])) ≡ map f xs ++ (f x ∷ [])
  map_snoc [] x = refl
  map_snoc (y ∷ xs) x = ap (λ (l : List ℕ). f y ∷ l) (map_snoc xs x)

  pub record Mapping (xs : List A) (ys : List ℕ) (i : ℕ) : Type 0 where
    pub within : i ≤ length xs
    pub long : length ys ≡ length xs
    pub done : take i ys ≡ map f (take i xs)

  pub map-one : (xs : List A) (ys : List ℕ) (i : ℕ) (d : A) → i < length xs → Mapping xs ys i → Mapping xs (set ys i (f (get_or xs i d))) (i + 1)
  map-one xs ys i d h m =
      let a : take (i + 1) (set ys i (f (get_or xs i d))) ≡ take i ys ++ (f (get_or xs i d) ∷ []) =
      ap (λ (k : ℕ). take k (set ys i (f (get_or xs i d)))) (add-one i) ∙ take-suc-set ys i (f (get_or xs i d)) (omega (arith, m.long)) in
      let b : map f (take (i + 1) xs) ≡ map f (take i xs) ++ (f (get_or xs i d) ∷ []) =
      ap (λ (k : ℕ). map f (take k xs)) (add-one i) ∙ ap (map f) (take-suc xs i d h) ∙ map_snoc (take i xs) (get_or xs i d) in
      record {
        within = omega arith;
        long = length-set ys i (f (get_or xs i d)) ∙ m.long;
        done = a ∙ ap (λ (l : List ℕ). l ++ (f (get_or xs i d) ∷ [])) m.done ∙ sym b;
      }

  pub map-all : (xs : List A) (ys : List ℕ) (i : ℕ) → Mapping xs ys i → length xs ≤ i → ys ≡ map f xs
  map-all xs ys i m h = sym (take_all i ys (omega (arith, m.long))) ∙ m.done ∙ ap (map f) (take_all i xs h)
