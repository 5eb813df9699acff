-- Laws of runs of stores, `sets`. Assumes nothing.
use Prim.Native.Nat.{ℕ, suc, ◌+◌, ◌-◌, ◌<◌, ◌≤◌}
use mathlib.Core.Path.{◌≡◌, refl, sym, ap, ◌∙◌}
use mathlib.Core.List.{List, [], ◌∷◌, ◌++◌, append_assoc}
use mathlib.Core.Logic.{⊎_elim}
use mathlib.Core.Bool.{true, false}
use native.Mathlib.Numerals.{add-one}
use native.Mathlib.Omega.{arith}
use lib.ListN.{length, get_or, take, drop, set, length-set, take-append-drop, drop_of_length-le}
use lib.Seq.{sets, length-sets, take_all, set-append_left, drop-cons, set_out, sets-eq, take-set-le, drop-set-lt, get_or-set_other, length-take-le, drop_at, take-append_seam}
use lib.Dec.{ltb}
use borrow.Author.Tests.{ltb-true, ltb-false}
use Rattle.octets.proofs.Bools.{either}
use Rattle.octets.specs.Octets.{part}

-- past the end nothing is stored
pub sets-out : (l : List ℕ) (i : ℕ) (s : List ℕ) → length l ≤ i → sets l i s ≡ l
sets-out l i [] h = refl
sets-out l i (b ∷ s) h = rw (set_out l i b h) (sets-out l (suc i) s (omega arith))

-- one run of stores after another
pub sets-append : (l : List ℕ) (i : ℕ) (a b : List ℕ) → sets l i (a ++ b) ≡ sets (sets l i a) (i + length a) b
sets-append l i [] b = let e : i + 0 ≡ i = omega arith in rw e
sets-append l i (x ∷ a) b = let e : i + suc (length a) ≡ suc i + length a = omega arith in rw e (sets-append (set l i x) (suc i) a b)

-- what stands before a run, and after it, stays
pub take-sets : (n : ℕ) (l : List ℕ) (i : ℕ) (s : List ℕ) → n ≤ i → take n (sets l i s) ≡ take n l
take-sets n l i [] h = refl
take-sets n l i (b ∷ s) h = take-sets n (set l i b) (suc i) s (omega arith) ∙ take-set-le n l i b h

pub drop-sets : (n : ℕ) (l : List ℕ) (i : ℕ) (s : List ℕ) → i + length s ≤ n → drop n (sets l i s) ≡ drop n l
drop-sets n l i [] h = refl
drop-sets n l i (b ∷ s) h = drop-sets n (set l i b) (suc i) s (omega arith) ∙ drop-set-lt n l i b (omega arith)

pub get_d_sets_before : (l : List ℕ) (i : ℕ) (s : List ℕ) (j : ℕ) → j < i → get_or (sets l i s) j 0 ≡ get_or l j 0
get_d_sets_before l i [] j h = refl
get_d_sets_before l i (b ∷ s) j h = get_d_sets_before (set l i b) (suc i) s j (omega arith) ∙ get_or-set_other l i j b 0 (λ e. bad e)
  where
    bad : j ≡ i → ⊥
    bad e = omega arith

-- what is stored stands there
pub part-sets : (l : List ℕ) (i : ℕ) (s : List ℕ) → i + length s ≤ length l → part (sets l i s) i (i + length s) ≡ s
part-sets l i s h =
    let e : i + length s - i ≡ length s = omega arith in
    let q : length (take i l) ≡ i = length-take-le i l (omega arith) in
    rw (e, sets-eq s l i h, append_assoc, drop_at (take i l) (s ++ drop (i + length s) l) i q) (take-append_seam s (drop (i + length s) l))

-- ---- the loop that copies: what is left to store from i on
pub record Copying (buf₀ : List ℕ) (at : ℕ) (src : List ℕ) (n : ℕ) (buf : List ℕ) (i : ℕ) : Type 0 where
  pub within : i ≤ n
  pub kept : length buf ≡ length buf₀
  pub same : sets buf (at + i) (drop i src) ≡ sets buf₀ at src

pub copying : (buf : List ℕ) (at : ℕ) (src : List ℕ) (n : ℕ) → Copying buf at src n buf 0
copying buf at src n = let e : at + 0 ≡ at = omega arith in record { within = omega arith; kept = refl; same = rw e }

pub copy-on : (buf₀ : List ℕ) (at : ℕ) (src : List ℕ) (n : ℕ) (buf : List ℕ) (i : ℕ) → Copying buf₀ at src n buf i → i < n → i < length src
    → Copying buf₀ at src n (set buf (at + i) (get_or src i 0)) (i + 1)
copy-on buf₀ at src n buf i g l h =
    let e : at + (i + 1) ≡ suc (at + i) = omega arith in
    record {
      within = omega arith;
      kept = length-set buf (at + i) (get_or src i 0) ∙ g.kept;
      same = rw (e, add-one i) (rw (drop-cons src i 0 h) at g.same);
    }

-- all of it, or all there is room for
pub copied : (buf₀ : List ℕ) (at : ℕ) (src : List ℕ) (n : ℕ) (buf : List ℕ) (i : ℕ) → Copying buf₀ at src n buf i → n ≤ i → n ≤ length src
    → (n < length src → length buf₀ ≤ at + n) → buf ≡ sets buf₀ at src
copied buf₀ at src n buf i g l h f = ⊎_elim cut whole (either (ltb n (length src)))
  where
    e : i ≡ n
    e = omega (arith, g.within)

    cut : ltb n (length src) ≡ true → buf ≡ sets buf₀ at src
    cut t = sym (sets-out buf (at + i) (drop i src) (omega (arith, g.kept, f (ltb-true n (length src) t)))) ∙ g.same

    whole : ltb n (length src) ≡ false → buf ≡ sets buf₀ at src
    whole t = let q : length src ≤ i = omega (arith, ltb-false n (length src) t) in rw (drop_of_length-le src q) at g.same

-- one more store
pub sets-snoc : (l : List ℕ) (i : ℕ) (a : List ℕ) (x : ℕ) → sets l i (a ++ (x ∷ [])) ≡ set (sets l i a) (i + length a) x
sets-snoc l i [] x = let e : i + 0 ≡ i = omega arith in rw e
sets-snoc l i (y ∷ a) x = let e : i + suc (length a) ≡ suc i + length a = omega arith in rw e (sets-snoc (set l i y) (suc i) a x)

-- ---- stores into one of two lists that stand one after the other
pub set-append-add : (xs ys : List ℕ) (k v : ℕ) → set (xs ++ ys) (length xs + k) v ≡ xs ++ set ys k v
set-append-add [] ys k v = let e : 0 + k ≡ k = omega arith in rw e
set-append-add (x ∷ xs) ys k v =
    let e : suc (length xs) + k ≡ suc (length xs + k) = omega arith in
    rw e (ap {B = List ℕ} (λ (l : List ℕ). x ∷ l) (set-append-add xs ys k v))

pub sets-append-add : (xs ys : List ℕ) (k : ℕ) (vs : List ℕ) → sets (xs ++ ys) (length xs + k) vs ≡ xs ++ sets ys k vs
sets-append-add xs ys k [] = refl
sets-append-add xs ys k (v ∷ vs) =
    let e : suc (length xs + k) ≡ length xs + suc k = omega arith in
    rw (set-append-add xs ys k v, e) (sets-append-add xs (set ys k v) (suc k) vs)

pub sets-append-left : (xs ys : List ℕ) (k : ℕ) (vs : List ℕ) → k + length vs ≤ length xs → sets (xs ++ ys) k vs ≡ sets xs k vs ++ ys
sets-append-left xs ys k [] h = refl
sets-append-left xs ys k (v ∷ vs) h =
    ap (λ (l : List ℕ). sets l (suc k) vs) (set-append_left xs ys k v (omega arith)) ∙ sets-append-left (set xs k v) ys (suc k) vs (omega (arith, length-set xs k v))

pub sets-cons : (x : ℕ) (l : List ℕ) (k : ℕ) (vs : List ℕ) → sets (x ∷ l) (suc k) vs ≡ x ∷ sets l k vs
sets-cons x l k [] = refl
sets-cons x l k (v ∷ vs) = sets-cons x (set l k v) (suc k) vs

-- stores from the start on, as many as there is room for
pub sets-front : (out l : List ℕ) → sets out 0 l ≡ take (length out) l ++ drop (length l) out
sets-front out l = ⊎_elim cut_off whole (either (ltb (length out) (length l)))
  where
    whole : ltb (length out) (length l) ≡ false → sets out 0 l ≡ take (length out) l ++ drop (length l) out
    whole t =
        let h : length l ≤ length out = ltb-false (length out) (length l) t in
        let z : 0 + length l ≡ length l = omega arith in
        sets-eq l out 0 (omega (arith, h)) ∙ rw (z, take_all (length out) l h)

    cut_off : ltb (length out) (length l) ≡ true → sets out 0 l ≡ take (length out) l ++ drop (length l) out
    cut_off t =
        let n : ℕ = length out in
        let h : length out < length l = ltb-true (length out) (length l) t in
        let k : length (take n l) ≡ n = length-take-le n l (omega (arith, h)) in
        let a : sets out 0 l ≡ sets (sets out 0 (take n l)) (0 + length (take n l)) (drop n l) = ap (λ (x : List ℕ). sets out 0 x) (sym (take-append-drop n l)) ∙ sets-append out 0 (take n l) (drop n l) in
        let b = sets-out (sets out 0 (take n l)) (0 + length (take n l)) (drop n l) (omega (arith, k, length-sets out 0 (take n l))) in
        let u : length out ≤ 0 + length (take n l) = omega (arith, k) in
        let v : length out ≤ length l = omega (arith, h) in
        let d : drop (0 + length (take n l)) out ≡ drop (length l) out = drop_of_length-le out u ∙ sym (drop_of_length-le out v) in
        a ∙ b ∙ sets-eq (take n l) out 0 (omega (arith, k)) ∙ rw d
