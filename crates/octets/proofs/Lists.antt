-- Laws of lists that speak of nothing else. Assumes nothing.
use Prim.Native.Nat.{ℕ, zero, suc, ◌+◌, ◌-◌, ◌≤◌}
use mathlib.Core.Path.{◌≡◌, refl, sym, ap, ◌∙◌}
use mathlib.Core.List.{List, [], ◌∷◌, ◌++◌, map, append_assoc}
use native.Mathlib.Omega.{arith}
use lib.ListN.{length, get_or, take, drop, replicate, length-append, take-append-drop}
use lib.Seq.{sets, drop-drop, drop_at}
use Rattle.octets.specs.Octets.{part}
use Rattle.octets.proofs.Stores.{part-sets}

-- ---- a first element
pub head_of : {X : Type 0} (a b : X) (l k : List X) → a ∷ l ≡ b ∷ k → a ≡ b
head_of a b l k h = cc

pub tail_of : {X : Type 0} (a b : X) (l k : List X) → a ∷ l ≡ b ∷ k → l ≡ k
tail_of a b l k h = cc

pub no-cons : {X : Type 0} {Y : Type 0} (a : X) (l : List X) → a ∷ l ≡ [] → Y
no-cons a l h = absurd (let z : ◌≡◌ {A = ℕ} 0 1 = cc in omega arith)

-- ---- joined lists
pub cancel : {X : Type 0} (l a b : List X) → l ++ a ≡ l ++ b → a ≡ b
cancel [] a b h = h
cancel (x ∷ l) a b h = cancel l a b (tail_of x x (l ++ a) (l ++ b) h)

pub length-snoc : (p : List ℕ) (b : ℕ) → length (p ++ (b ∷ [])) ≡ length p + 1
length-snoc p b = length-append p (b ∷ [])

pub drop_past : (p : List ℕ) (b : ℕ) (rest : List ℕ) → drop (length p + 1) (p ++ (b ∷ rest)) ≡ rest
drop_past p b rest = ap (drop (length p + 1)) (sym (append_assoc p (b ∷ []) rest)) ∙ drop_at (p ++ (b ∷ [])) rest (length p + 1) (length-snoc p b)

-- a part and what follows it
pub part-rest : (s : List ℕ) (a e : ℕ) → a ≤ e → part s a e ++ drop e s ≡ drop a s
part-rest s a e h =
    let q : a + (e - a) ≡ e = omega arith in
    ap (λ (l : List ℕ). part s a e ++ l) (sym (drop-drop (e - a) a s ∙ ap (λ (n : ℕ). drop n s) q)) ∙ take-append-drop (e - a) (drop a s)

-- what is stored at the start stands there
pub take-sets-first : (l s : List ℕ) → length s ≤ length l → take (length s) (sets l 0 s) ≡ s
take-sets-first l s h = let e : 0 + length s - 0 ≡ length s = omega arith in ap (λ (n : ℕ). take n (sets l 0 s)) (sym e) ∙ part-sets l 0 s (omega arith)

-- ---- map
pub map-append : {A B : Type 0} (h : A → B) (a b : List A) → map h (a ++ b) ≡ map h a ++ map h b
map-append h [] b = refl
map-append h (x ∷ a) b = rw (map-append h a b)

pub map-take : {A B : Type 0} (g : A → B) (k : ℕ) (l : List A) → take k (map g l) ≡ map g (take k l)
map-take g zero l = refl
map-take g (suc k) [] = refl
map-take g (suc k) (x ∷ l) = rw (map-take g k l)

-- ---- zeros
pub zeros : (n k : ℕ) → ◌≡◌ {A = ℕ} (get_or (replicate n 0) k 0) 0
zeros zero k = refl
zeros (suc n) zero = refl
zeros (suc n) (suc k) = zeros n k
