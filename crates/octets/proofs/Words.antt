-- Bytewise order, a word at a time. Assumes nothing.
use mathlib.Core.Path.{◌≡◌, refl, sym, ap, ap₂, ◌∙◌, subst}
use mathlib.Core.Logic.{◌⊎◌, inl, inr, ⊎_elim}
use mathlib.Core.Bool.{true, false}
use mathlib.Core.List.{List, [], ◌∷◌, ◌++◌, append_assoc}
use Prim.Native.Nat.{ℕ, suc, ◌+◌, ◌*◌, ◌-◌, ◌%◌, ◌^◌, ◌<◌, ◌≤◌}
use native.Mathlib.Omega.{arith}
use lib.Dec.{ltb}
use borrow.Author.Tests.{lt-ltb, le-ltb}
use lib.Arith.{digits_lt}
use lib.ListN.{length, take, drop, length-drop, length-append, take-append-drop}
use lib.Seq.{take_all, take_at, drop_at, length-take-le}
use Rattle.octets.specs.Octets.{Bytes, part, lower, number}
use Rattle.octets.proofs.Bools.{to-false}
use Rattle.octets.proofs.Parts.{bytes_take, bytes_drop}
use Rattle.octets.proofs.Strings.{before-less, before_same, before-out, three, lower-asym}
use Rattle.octets.proofs.Numbers.{number_lt, number-inj}

-- of two strings of one length the lower number is the lower string
pub number-lower : (s t : List ℕ) → length s ≡ length t → Bytes s → Bytes t → number s < number t → lower s t ≡ true
unfolding number lower
number-lower [] [] e hs ht l = absurd (no l)
  where
    no : 0 < 0 → ⊥
    no h = omega arith
number-lower [] (y ∷ t) e hs ht l = refl
number-lower (x ∷ s) [] e hs ht l = absurd (no e)
  where
    no : {n : ℕ} → suc n ≡ 0 → ⊥
    no h = omega arith
number-lower (x ∷ s) (y ∷ t) e hs ht l =
    ⊎_elim (λ a. before-less x y (lower s t) a)
    (λ w. ⊎_elim (λ a. absurd (over a)) (λ q. before_same x y (lower s t) q ∙ number-lower s t el (λ i. hs (suc i)) (λ i. ht (suc i)) (rest q)) w)
    (three x y)
  where
    el : length s ≡ length t
    el = omega arith

    lt : number t < 2 ^ (length s * 8)
    lt = rw el (number_lt t (λ i. ht (suc i)))

    l' : x * 2 ^ (length s * 8) + number s < y * 2 ^ (length s * 8) + number t
    l' = subst (λ (n : ℕ). x * 2 ^ (length s * 8) + number s < y * 2 ^ (n * 8) + number t) (sym el) l

    over : y < x → ⊥
    over a = omega (arith, digits_lt {c = 2 ^ (length s * 8)} a lt, l')

    rest : x ≡ y → number s < number t
    rest q = let m : x * 2 ^ (length s * 8) ≡ y * 2 ^ (length s * 8) = ap (λ (n : ℕ). n * 2 ^ (length s * 8)) q in omega (arith, l')

-- a common start is passed over, and a lower start decides
pub lower-append : (c a b : List ℕ) → lower (c ++ a) (c ++ b) ≡ lower a b
unfolding lower
lower-append [] a b = refl
lower-append (x ∷ c) a b = before_same x x (lower (c ++ a) (c ++ b)) refl ∙ lower-append c a b

pub lower-start : (s t a b : List ℕ) → length s ≡ length t → lower s t ≡ true → lower (s ++ a) (t ++ b) ≡ true
unfolding lower
lower-start [] [] a b e h = absurd (no h)
  where
    no : false ≡ true → ⊥
    no q = let z : ◌≡◌ {A = ℕ} 0 1 = cc in omega arith
lower-start [] (y ∷ t) a b e h = absurd (no e)
  where
    no : {n : ℕ} → 0 ≡ suc n → ⊥
    no q = omega arith
lower-start (x ∷ s) [] a b e h = absurd (no e)
  where
    no : {n : ℕ} → suc n ≡ 0 → ⊥
    no q = omega arith
lower-start (x ∷ s) (y ∷ t) a b e h =
    ⊎_elim (λ l. before-less x y (lower (s ++ a) (t ++ b)) l)
    (λ w. before_same x y (lower (s ++ a) (t ++ b)) w.0 ∙ lower-start s t a b (omega arith) w.1) (before-out x y (lower s t) h)

-- ---- the loop that compares word by word: u and v are the words that are left, d and e what comes after them
pub record Left (a b d e u v : List ℕ) : Type 0 where
  pub even : length u ≡ length v
  pub whole : length u % 8 ≡ 0
  pub first : Bytes u
  pub second : Bytes v
  pub order : lower a b ≡ lower (u ++ d) (v ++ e)

pub left : (a b : List ℕ) (n : ℕ) (u v : List ℕ) → n ≤ length a → n ≤ length b → n % 8 ≡ 0 → Bytes a → Bytes b → u ≡ take n a → v ≡ take n b
    → Left a b (drop n a) (drop n b) u v
left a b n u v la lb w ha hb eu ev =
    record {
      even = rw (eu, ev, length-take-le n a la) (sym (length-take-le n b lb));
      whole = rw (eu, length-take-le n a la) w;
      first = rw eu (bytes_take n a ha);
      second = rw ev (bytes_take n b hb);
      order = rw (eu, ev, take-append-drop n a, take-append-drop n b);
    }

module _ {a b d e u v : List ℕ} (h : Left a b d e u v) where
  -- where no whole word is left, the two have the same words
  pub left-none : length u < 8 → lower a b ≡ lower d e
  left-none l = h.order ∙ ap₂ (λ (p q : List ℕ). lower (p ++ d) (q ++ e)) (none u (omega (arith, h.whole))) (none v (omega (arith, h.even, h.whole)))
    where
      none : (s : List ℕ) → length s ≡ 0 → s ≡ []
      none [] q = refl
      none (x ∷ s) q = absurd (no q)
        where
          no : suc (length s) ≡ 0 → ⊥
          no g = omega arith

  module _ (x y p q : List ℕ) (eu : u ≡ x ++ p) (ev : v ≡ y ++ q) (lx : length x ≡ 8) (ly : length y ≡ 8) {m n : ℕ} (em : m ≡ number (part x 0 8)) (en : n ≡ number (part y 0 8)) where
    xs : Bytes x
    xs = subst Bytes (ap (λ (s : List ℕ). take 8 s) eu ∙ take_at x p 8 lx) (bytes_take 8 u h.first)

    ys : Bytes y
    ys = subst Bytes (ap (λ (s : List ℕ). take 8 s) ev ∙ take_at y q 8 ly) (bytes_take 8 v h.second)

    mx : m ≡ number x
    mx = em ∙ ap number (take_all 8 x (omega (arith, lx)))

    ny : n ≡ number y
    ny = en ∙ ap number (take_all 8 y (omega (arith, ly)))

    at : lower a b ≡ lower (x ++ (p ++ d)) (y ++ (q ++ e))
    at = h.order ∙ ap₂ (λ (s t : List ℕ). lower (s ++ d) (t ++ e)) eu ev ∙ ap₂ lower (append_assoc x p d) (append_assoc y q e)

    -- where their first words differ, these decide
    pub left-decides : (m ≡ n → ⊥) → ltb m n ≡ lower a b
    left-decides ne = by (three m n) ∙ sym at
      where
        by : (m < n) ⊎ ((n < m) ⊎ (m ≡ n)) → ltb m n ≡ lower (x ++ (p ++ d)) (y ++ (q ++ e))
        by (inl l) = lt-ltb m n l ∙ sym (lower-start x y (p ++ d) (q ++ e) (lx ∙ sym ly) (number-lower x y (lx ∙ sym ly) xs ys (omega (arith, mx, ny))))
        by (inr (inl l)) = le-ltb m n (omega arith) ∙ sym (to-false _ (λ z. lower-asym _ _ z (lower-start y x (q ++ e) (p ++ d) (ly ∙ sym lx) (number-lower y x (ly ∙ sym lx) ys xs (omega (arith, mx, ny))))))
        by (inr (inr z)) = absurd (ne z)

    -- else the next ones may
    pub left-on : m ≡ n → Left a b d e p q
    left-on z =
        record {
          even = omega (arith, h.even, lu, lv);
          whole = omega (arith, h.whole, lu);
          first = subst Bytes (ap (λ (s : List ℕ). drop 8 s) eu ∙ drop_at x p 8 lx) (bytes_drop 8 u h.first);
          second = subst Bytes (ap (λ (s : List ℕ). drop 8 s) ev ∙ drop_at y q 8 ly) (bytes_drop 8 v h.second);
          order = at ∙ ap (λ (s : List ℕ). lower (s ++ (p ++ d)) (y ++ (q ++ e))) (number-inj x y (lx ∙ sym ly) xs ys (sym mx ∙ z ∙ ny)) ∙ lower-append y (p ++ d) (q ++ e);
        }
      where
        lu : length u ≡ 8 + length p
        lu = ap (λ (s : List ℕ). length s) eu ∙ length-append x p ∙ ap (λ (k : ℕ). k + length p) lx

        lv : length v ≡ 8 + length q
        lv = ap (λ (s : List ℕ). length s) ev ∙ length-append y q ∙ ap (λ (k : ℕ). k + length q) ly

-- a part up to the end
pub to_end : (s : List ℕ) (i : ℕ) → part s i (length s) ≡ drop i s
to_end s i = take_all (length s - i) (drop i s) (simp length-drop (omega arith))
