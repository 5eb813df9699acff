-- The loop of `put`: the first i entries are the result's, the rest are as they came, and the one in hand is the result's next. Assumes nothing.
use mathlib.Core.Path.{◌≡◌, sym, ap, ◌∙◌}
use mathlib.Core.List.{List, [], ◌++◌, ◌∷◌, append_assoc, append-nil}
use Prim.Native.Nat.{ℕ, suc, ◌+◌, ◌-◌, ◌≤◌, ◌<◌}
use native.Mathlib.Omega.{arith}
use native.Mathlib.Numerals.{add-one}
use lib.ListN.{length, get_or, take, drop, set, length-append, length-drop, take-append-drop, drop_of_length-le}
use lib.Seq.{length-take-le, take_at, get_or_at, set_at, drop-cons, take-suc, get_or-append-add, get_or-drop}

-- k at place p of l
abbrev pub with-k : List ℕ → ℕ → ℕ → List ℕ
with-k l p k = take p l ++ k ∷ drop p l

length-with : (l : List ℕ) (p k : ℕ) → p ≤ length l → length (with-k l p k) ≡ suc (length l)
length-with l p k h = simp (length-append, length-take-le p l h, length-drop) (omega arith)

pub start-list : (l : List ℕ) (p k : ℕ) → p ≤ length l → l ≡ take p (with-k l p k) ++ drop p l
start-list l p k h = sym (ap (λ (z : List ℕ). z ++ drop p l) (take_at (take p l) (k ∷ drop p l) p (length-take-le p l h)) ∙ take-append-drop p l)

pub start-next : (l : List ℕ) (p k : ℕ) → p ≤ length l → k ≡ get_or (with-k l p k) p 0
start-next l p k h = sym (get_or_at (take p l) k (drop p l) 0 p (length-take-le p l h))

-- the entry at i becomes x, the result's
pub step-list : (l : List ℕ) (p k i : ℕ) (a : List ℕ) (x : ℕ) → p ≤ length l → i < length l → a ≡ take i (with-k l p k) ++ drop i l → x ≡ get_or (with-k l p k) i 0
    → set a i x ≡ take (i + 1) (with-k l p k) ++ drop (i + 1) l
step-list l p k i a x hp hi ea ex =
    let n : i < length (with-k l p k) = omega (arith, length-with l p k hp) in
    let m : length (take i (with-k l p k)) ≡ i = length-take-le i (with-k l p k) (omega arith) in
    rw (ea, ex, drop-cons l i 0 hi, add-one, take-suc (with-k l p k) i 0 n)
    (set_at (take i (with-k l p k)) (get_or l i 0) (drop (suc i) l) (get_or (with-k l p k) i 0) i m
    ∙ sym (append_assoc (take i (with-k l p k)) (get_or (with-k l p k) i 0 ∷ []) (drop (suc i) l)))

-- what stood there is the result's next
pub step-next : (l : List ℕ) (p k i : ℕ) (a : List ℕ) → p ≤ length l → i < length l → p ≤ i → a ≡ take i (with-k l p k) ++ drop i l
    → get_or a i 0 ≡ get_or (with-k l p k) (i + 1) 0
step-next l p k i a hp hi hpi ea =
    let n : i < length (with-k l p k) = omega (arith, length-with l p k hp) in
    let m : length (take i (with-k l p k)) ≡ i = length-take-le i (with-k l p k) (omega arith) in
    let e : i + 1 ≡ length (take p l) + suc (i - p) = omega (arith, length-take-le p l hp) in
    let f : p + (i - p) ≡ i = omega arith in
    rw (ea, drop-cons l i 0 hi) (get_or_at (take i (with-k l p k)) (get_or l i 0) (drop (suc i) l) 0 i m)
    ∙ sym (ap (λ (z : ℕ). get_or (with-k l p k) z 0) e ∙ get_or-append-add (take p l) (k ∷ drop p l) (suc (i - p)) 0 ∙ get_or-drop p l (i - p) 0 ∙ ap (λ (z : ℕ). get_or l z 0) f)

pub ends : (l : List ℕ) (p k i : ℕ) (a : List ℕ) → length l ≡ 20 → i ≡ 20 → a ≡ take i (with-k l p k) ++ drop i l → a ≡ take 20 (with-k l p k)
ends l p k i a hl hi ea =
    ea ∙ ap (λ (z : ℕ). take z (with-k l p k) ++ drop z l) hi
    ∙ ap (λ (z : List ℕ). take 20 (with-k l p k) ++ z) (drop_of_length-le l {i = 20} (omega arith)) ∙ append-nil (take 20 (with-k l p k))
