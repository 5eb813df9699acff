-- Words as four bytes, and the bytes of numbers. Assumes nothing.
use Rattle.std.proofs.Common.{◌≡◌, ℕ, suc, ◌+◌, ◌-◌, ◌*◌, ◌/◌, ◌%◌, ◌^◌, ◌<◌, ◌≤◌, List, [], ◌∷◌, length, get_or, set, sym, ap, ◌∙◌, mul_assoc, div-one, arith, drop-cons}
use native.Mathlib.Nat.{mod-add-div, add-mul-div_left, add-mul-mod_self_left}
use lib.Seq.{sets}
use Rattle.octets.specs.Octets.{part, number, big_endian}

-- four bytes of a list
part-four : (s : List ℕ) (i : ℕ) → i + 4 ≤ length s
    → part s i (i + 4) ≡ get_or s i 0 ∷ get_or s (i + 1) 0 ∷ get_or s (i + 2) 0 ∷ get_or s (i + 3) 0 ∷ []
part-four s i h =
    let n : i + 4 - i ≡ 4 = omega arith in
    let e1 : i + 1 ≡ suc i = omega arith in
    let e2 : i + 2 ≡ suc (suc i) = omega arith in
    let e3 : i + 3 ≡ suc (suc (suc i)) = omega arith in
    let h0 : i < length s = omega arith in
    let h1 : suc i < length s = omega arith in
    let h2 : suc (suc i) < length s = omega arith in
    let h3 : suc (suc (suc i)) < length s = omega arith in
    rw (n, e1, e2, e3, drop-cons s i 0 h0, drop-cons s (suc i) 0 h1, drop-cons s (suc (suc i)) 0 h2, drop-cons s (suc (suc (suc i))) 0 h3)

-- the word at a place, from its four bytes
pub number-four : (s : List ℕ) (i : ℕ) → i + 4 ≤ length s
    → get_or s i 0 * 16777216 + get_or s (i + 1) 0 * 65536 + get_or s (i + 2) 0 * 256 + get_or s (i + 3) 0 ≡ number (part s i (i + 4))
unfolding number
number-four s i h = rw (part-four s i h) (omega arith)

-- four stores, the highest byte first
pub store-four : (l : List ℕ) (i x : ℕ)
    → set (set (set (set l i (x / 16777216 % 256)) (i + 1) (x / 65536 % 256)) (i + 2) (x / 256 % 256)) (i + 3) (x % 256) ≡ sets l i (big_endian 4 x)
unfolding big_endian
store-four l i x =
    let e1 : i + 1 ≡ suc i = omega arith in
    let e2 : i + 2 ≡ suc (suc i) = omega arith in
    let e3 : i + 3 ≡ suc (suc (suc i)) = omega arith in
    rw (e1, e2, e3, div-one x)

-- a byte of a number, from its lowest bits alone
byte-mod : (x p q : ℕ) → 0 < p → x % (p * (256 * q)) / p % 256 ≡ x / p % 256
byte-mod x p q h =
    let n : ℕ = p * (256 * q) in
    let a : p * (256 * q) * (x / (p * (256 * q))) ≡ p * (256 * (q * (x / (p * (256 * q))))) = simp mul_assoc in
    let e : x ≡ x % (p * (256 * q)) + p * (256 * (q * (x / (p * (256 * q))))) = sym (mod-add-div x (p * (256 * q))) ∙ ap (λ (y : ℕ). x % (p * (256 * q)) + y) a in
    sym
    (ap (λ (y : ℕ). y / p % 256) e
    ∙ ap (λ (y : ℕ). y % 256) (add-mul-div_left (x % (p * (256 * q))) (256 * (q * (x / (p * (256 * q))))) h)
    ∙ add-mul-mod_self_left (x % (p * (256 * q)) / p) 256 (q * (x / (p * (256 * q)))))

-- eight stores of the lowest 64 bits
pub store-eight : (l : List ℕ) (i x : ℕ) → let y : ℕ = x % 2 ^ 64 in
    set (set (set (set (set (set (set (set l i (y / 2 ^ 56 % 256)) (i + 1) (y / 2 ^ 48 % 256)) (i + 2) (y / 2 ^ 40 % 256)) (i + 3) (y / 2 ^ 32 % 256))
    (i + 4) (y / 2 ^ 24 % 256)) (i + 5) (y / 2 ^ 16 % 256)) (i + 6) (y / 2 ^ 8 % 256)) (i + 7) (y % 256) ≡ sets l i (big_endian 8 x)
unfolding big_endian
store-eight l i x =
    let e1 : i + 1 ≡ suc i = omega arith in
    let e2 : i + 2 ≡ suc (suc i) = omega arith in
    let e3 : i + 3 ≡ suc (suc (suc i)) = omega arith in
    let e4 : i + 4 ≡ suc (suc (suc (suc i))) = omega arith in
    let e5 : i + 5 ≡ suc (suc (suc (suc (suc i)))) = omega arith in
    let e6 : i + 6 ≡ suc (suc (suc (suc (suc (suc i))))) = omega arith in
    let e7 : i + 7 ≡ suc (suc (suc (suc (suc (suc (suc i)))))) = omega arith in
    let b7 : x % 2 ^ 64 / 2 ^ 56 % 256 ≡ x / 2 ^ 56 % 256 = byte-mod x (2 ^ 56) (2 ^ 0) (omega arith) in
    let b6 : x % 2 ^ 64 / 2 ^ 48 % 256 ≡ x / 2 ^ 48 % 256 = byte-mod x (2 ^ 48) (2 ^ 8) (omega arith) in
    let b5 : x % 2 ^ 64 / 2 ^ 40 % 256 ≡ x / 2 ^ 40 % 256 = byte-mod x (2 ^ 40) (2 ^ 16) (omega arith) in
    let b4 : x % 2 ^ 64 / 2 ^ 32 % 256 ≡ x / 2 ^ 32 % 256 = byte-mod x (2 ^ 32) (2 ^ 24) (omega arith) in
    let b3 : x % 2 ^ 64 / 2 ^ 24 % 256 ≡ x / 2 ^ 24 % 256 = byte-mod x (2 ^ 24) (2 ^ 32) (omega arith) in
    let b2 : x % 2 ^ 64 / 2 ^ 16 % 256 ≡ x / 2 ^ 16 % 256 = byte-mod x (2 ^ 16) (2 ^ 40) (omega arith) in
    let b1 : x % 2 ^ 64 / 2 ^ 8 % 256 ≡ x / 2 ^ 8 % 256 = byte-mod x (2 ^ 8) (2 ^ 48) (omega arith) in
    let b0 : x % 2 ^ 64 % 256 ≡ x / 1 % 256 = ap (λ (y : ℕ). y % 256) (sym (div-one (x % 2 ^ 64))) ∙ byte-mod x 1 (2 ^ 56) (omega arith) in
    rw (e1, e2, e3, e4, e5, e6, e7, b7, b6, b5, b4, b3, b2, b1, b0)
