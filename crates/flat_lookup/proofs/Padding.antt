-- Laws of a byte string that stands in a row of zeros, and of runs of stores that meet. Assumes nothing.
use Prim.Native.Nat.{ℕ, ◌+◌, ◌≤◌}
use mathlib.Core.Path.{◌≡◌, sym, ap, ◌∙◌}
use mathlib.Core.List.{List, ◌++◌, append-nil}
use native.Mathlib.Omega.{arith}
use lib.ListN.{length, drop, replicate, length-replicate, drop_of_length-le}
use lib.Seq.{sets, sets-eq, length-sets}
use Rattle.lookup.specs.Lookup.{padded}
use Rattle.octets.proofs.Stores.{sets-append, sets-out}

abbrev zeros : ℕ → List ℕ
zeros n = replicate n 0

pub padded-length : (n : ℕ) (s : List ℕ) → length (padded n s) ≡ n
padded-length n s = length-sets (replicate n 0) 0 s ∙ length-replicate n 0

-- what has the row's length fills it
pub padded-whole : (n : ℕ) (s : List ℕ) → length s ≡ n → padded n s ≡ s
padded-whole n s e =
    let r : length (zeros n) ≡ n = length-replicate n 0 in
    let h : length (zeros n) ≤ 0 + length s = omega arith in
    sets-eq s (zeros n) 0 (omega arith)
    ∙ ap (λ (t : List ℕ). s ++ t) (drop_of_length-le (zeros n) h)
    ∙ append-nil s

-- what comes after n bytes is left out
pub padded-enough : (n : ℕ) (s t : List ℕ) → n ≤ length s → padded n (s ++ t) ≡ padded n s
padded-enough n s t h =
    sets-append (replicate n 0) 0 s t
    ∙ sets-out (padded n s) (0 + length s) t (omega (arith, padded-length n s))

pub padded-front : (n : ℕ) (s t : List ℕ) → length s ≡ n → padded n (s ++ t) ≡ s
padded-front n s t e = padded-enough n s t (omega arith) ∙ padded-whole n s e

-- ---- three runs of stores that meet
pub three-runs : (out : List ℕ) (at : ℕ) (a b c : List ℕ) (i j : ℕ) → at + length a ≡ i → i + length b ≡ j
    → (x y z : List ℕ) → x ≡ sets out at a → y ≡ sets x i b → z ≡ sets y j c → z ≡ sets out at (a ++ (b ++ c))
three-runs out at a b c i j ei ej x y z ex ey ez =
    ez ∙ ap (λ (u : List ℕ). sets u j c) (ey ∙ ap (λ (u : List ℕ). sets u i b) ex)
    ∙ sym (sets-append out at a (b ++ c)
    ∙ ap (λ (k : ℕ). sets (sets out at a) k (b ++ c)) ei
    ∙ sets-append (sets out at a) i b c
    ∙ ap (λ (k : ℕ). sets (sets (sets out at a) i b) k c) ej)

-- from a place past the end on nothing is left
pub cut-past : (s : List ℕ) (a : ℕ) → length s ≤ a → drop (length s) s ≡ drop a s
cut-past s a h = let z : length s ≤ length s = omega arith in drop_of_length-le s z ∙ sym (drop_of_length-le s h)
