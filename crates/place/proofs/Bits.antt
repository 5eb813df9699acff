-- The bits of byte strings, and the leading zeros of the XOR of their numbers. Assumes nothing.
use Prim.Native.Nat.{ℕ, zero, suc, ◌+◌, ◌*◌, ◌/◌, ◌%◌, ◌^◌, ◌<◌, ◌≤◌}
use mathlib.Core.Path.{◌≡◌, refl, sym, ap, ap₂, ◌∙◌, subst}
use mathlib.Core.Logic.{⊎_elim}
use mathlib.Core.List.{List, [], ◌∷◌, ◌++◌, append_assoc}
use native.Mathlib.Nat.{eq-zero-or-pos, pow-suc, mul-le-mul_right, div-lt_iff_lt-mul, mod-lt, div-add-mod', pow-succ'}
use native.Mathlib.Omega.{arith}
use lib.Arith.{digits_lt}
use lib.Pow.{pow-add, pow_pos}
use lib.Bits.{bit_xor, xor_lt, xor_block, xor_self, xor_add_and, and_le_l, and_le_r}
use lib.Count.{count_leading_zeros, leading_length, leading_unique, leading_top}
use lib.ListN.{length, length-append}
use borrow.Author.Tests.{eq-eqb, ne_eqb}
use Rattle.octets.specs.Octets.{Bytes, number}
use Rattle.octets.proofs.Bools.{eq-or-ne}
use Rattle.octets.proofs.Numbers.{number_lt}
use Rattle.place.specs.Place.{bits_of, bits, common}

-- ---- leading zeros of a number in two parts
-- the upper part is 0: its digits are zeros
pub zeros-low : (j k r : ℕ) → r < 2 ^ k → count_leading_zeros (j + k) r ≡ j + count_leading_zeros k r
zeros-low j k r h =
    let s = leading_length k r h in
    sym (leading_unique (j + k) r (j + count_leading_zeros k r) s.0 (omega (arith, s.1)) s.2 s.3)

-- the upper part is not 0: the lower does not count
pub zeros-high : (j k a r : ℕ) → 0 < a → a < 2 ^ j → r < 2 ^ k → count_leading_zeros (j + k) (a * 2 ^ k + r) ≡ count_leading_zeros j a
zeros-high j k a r p h l =
    let t = leading_top j a p h in
    let m : ℕ = t.0 in
    let low : 2 ^ m * 2 ^ k ≤ a * 2 ^ k = mul-le-mul_right (2 ^ k) t.2 in
    let e : suc m + k ≡ suc (m + k) = omega arith in
    let dbl : 2 ^ (suc m + k) ≡ 2 ^ (m + k) * 2 = ap (λ (x : ℕ). 2 ^ x) e ∙ pow-suc 2 (m + k) in
    let hi : a * 2 ^ k + r < 2 ^ (suc m + k) = subst (λ (x : ℕ). a * 2 ^ k + r < x) (sym (pow-add 2 (suc m) k)) (digits_lt t.3 l) in
    sym (leading_unique (j + k) (a * 2 ^ k + r) (count_leading_zeros j a) (suc m + k) (omega (arith, t.1)) hi (omega (arith, pow-add 2 m k)))

pub xor-zero : (a b : ℕ) → bit_xor a b ≡ 0 → a ≡ b
xor-zero a b e = omega (arith, xor_add_and a b, and_le_l a b, and_le_r a b)

pub xor-pos : (a b : ℕ) → (a ≡ b → ⊥) → 0 < bit_xor a b
xor-pos a b h = ⊎_elim (λ e. absurd (h (xor-zero a b e))) (λ p. p) (eq-zero-or-pos (bit_xor a b))

zero-up : (r m : ℕ) → 0 * m + r ≡ r
zero-up r m = omega arith

-- ---- what two lists share
common-eq : (x y : ℕ) (xs ys : List ℕ) → x ≡ y → common (x ∷ xs) (y ∷ ys) ≡ suc (common xs ys)
unfolding common
common-eq x y xs ys e = rw (eq-eqb x y e)

common-ne : (x y : ℕ) (xs ys : List ℕ) → (x ≡ y → ⊥) → common (x ∷ xs) (y ∷ ys) ≡ 0
unfolding common
common-ne x y xs ys e = rw (ne_eqb x y e)

-- a common start counts whole
pub common-append : (c xs ys : List ℕ) → common (c ++ xs) (c ++ ys) ≡ length c + common xs ys
common-append [] xs ys = omega arith
common-append (x ∷ c) xs ys = common-eq x x (c ++ xs) (c ++ ys) refl ∙ omega (arith, common-append c xs ys)

pub common-none : common [] [] ≡ 0
unfolding common
common-none = refl

-- ---- the bits of a number, and of a byte string
length-bits_of : (n x : ℕ) → length (bits_of n x) ≡ n
unfolding bits_of
length-bits_of zero x = refl
length-bits_of (suc n) x = ap suc (length-bits_of n (x % 2 ^ n))

pub length-bits : (s : List ℕ) → length (bits s) ≡ length s * 8
unfolding bits
length-bits [] = refl
length-bits (b ∷ s) = omega (arith, length-append (bits_of 8 b) (bits s), length-bits_of 8 b, length-bits s)

pub bits-append : (s t : List ℕ) → bits (s ++ t) ≡ bits s ++ bits t
unfolding bits
bits-append [] t = refl
bits-append (b ∷ s) t = rw (bits-append s t) (sym (append_assoc (bits_of 8 b) (bits s) (bits t)))

-- the top bit and the rest
module _ (n a b : ℕ) (la : a < 2 ^ suc n) (lb : b < 2 ^ suc n) where
  top_lt : (c : ℕ) → c < 2 ^ suc n → c / 2 ^ n < 2
  top_lt c l = (div-lt_iff_lt-mul (pow_pos n)).1 (subst (λ (m : ℕ). c < m) (pow-succ' 2 n) l)

  rest_lt : (c : ℕ) → c % 2 ^ n < 2 ^ n
  rest_lt c = mod-lt c (pow_pos n)

  low-lt : bit_xor (a % 2 ^ n) (b % 2 ^ n) < 2 ^ n
  low-lt = xor_lt n (a % 2 ^ n) (b % 2 ^ n) (rest_lt a) (rest_lt b)

  in_two : bit_xor a b ≡ bit_xor (a / 2 ^ n) (b / 2 ^ n) * 2 ^ n + bit_xor (a % 2 ^ n) (b % 2 ^ n)
  in_two =
      ap₂ (λ (x y : ℕ). bit_xor x y) (sym (div-add-mod' a (2 ^ n))) (sym (div-add-mod' b (2 ^ n)))
      ∙ xor_block n (a / 2 ^ n) (b / 2 ^ n) (a % 2 ^ n) (b % 2 ^ n) (rest_lt a) (rest_lt b)

  zeros-same : a / 2 ^ n ≡ b / 2 ^ n → count_leading_zeros (1 + n) (bit_xor a b) ≡ suc (count_leading_zeros n (bit_xor (a % 2 ^ n) (b % 2 ^ n)))
  zeros-same e =
      let z : bit_xor (a / 2 ^ n) (b / 2 ^ n) ≡ 0 = subst (λ (x : ℕ). bit_xor (a / 2 ^ n) x ≡ 0) e (xor_self (a / 2 ^ n)) in
      let w : bit_xor a b ≡ bit_xor (a % 2 ^ n) (b % 2 ^ n) = in_two ∙ ap (λ (x : ℕ). x * 2 ^ n + bit_xor (a % 2 ^ n) (b % 2 ^ n)) z ∙ zero-up (bit_xor (a % 2 ^ n) (b % 2 ^ n)) (2 ^ n) in
      ap (count_leading_zeros (1 + n)) w ∙ zeros-low 1 n (bit_xor (a % 2 ^ n) (b % 2 ^ n)) low-lt ∙ omega arith

  zeros-other : (a / 2 ^ n ≡ b / 2 ^ n → ⊥) → count_leading_zeros (1 + n) (bit_xor a b) ≡ 0
  zeros-other h =
      let x : ℕ = bit_xor (a / 2 ^ n) (b / 2 ^ n) in
      let lx : x < 2 ^ 1 = xor_lt 1 (a / 2 ^ n) (b / 2 ^ n) (top_lt a la) (top_lt b lb) in
      let t = leading_top 1 x (xor-pos (a / 2 ^ n) (b / 2 ^ n) h) lx in
      ap (count_leading_zeros (1 + n)) in_two
      ∙ zeros-high 1 n x (bit_xor (a % 2 ^ n) (b % 2 ^ n)) (xor-pos (a / 2 ^ n) (b / 2 ^ n) h) lx low-lt
      ∙ omega (arith, t.1)

one_up : (n : ℕ) → suc n ≡ 1 + n
one_up n = omega arith

-- two numbers of n bits that differ
common-number : (n a b : ℕ) (xs ys : List ℕ) → a < 2 ^ n → b < 2 ^ n → (a ≡ b → ⊥) → common (bits_of n a ++ xs) (bits_of n b ++ ys) ≡ count_leading_zeros n (bit_xor a b)
unfolding bits_of
common-number zero a b xs ys la lb h = absurd (h (both la lb))
  where
    both : a < 1 → b < 1 → a ≡ b
    both p q = omega arith
common-number (suc n) a b xs ys la lb h =
    ⊎_elim (λ e. common-eq (a / 2 ^ n) (b / 2 ^ n) (bits_of n (a % 2 ^ n) ++ xs) (bits_of n (b % 2 ^ n) ++ ys) e
    ∙ ap suc (common-number n (a % 2 ^ n) (b % 2 ^ n) xs ys (mod-lt a (pow_pos n)) (mod-lt b (pow_pos n)) (λ q. h (join e q)))
    ∙ sym (zeros-same n a b la lb e) ∙ ap (λ (m : ℕ). count_leading_zeros m (bit_xor a b)) (sym (one_up n)))
    (λ e. common-ne (a / 2 ^ n) (b / 2 ^ n) (bits_of n (a % 2 ^ n) ++ xs) (bits_of n (b % 2 ^ n) ++ ys) e ∙ sym (zeros-other n a b la lb e)
    ∙ ap (λ (m : ℕ). count_leading_zeros m (bit_xor a b)) (sym (one_up n))) (eq-or-ne (a / 2 ^ n) (b / 2 ^ n))
  where
    join : a / 2 ^ n ≡ b / 2 ^ n → a % 2 ^ n ≡ b % 2 ^ n → a ≡ b
    join p q = sym (div-add-mod' a (2 ^ n)) ∙ ap₂ (λ (x y : ℕ). x * 2 ^ n + y) p q ∙ div-add-mod' b (2 ^ n)

-- two byte strings of one length that differ share as many bits as the XOR of their numbers has leading zeros, whatever follows them
pub common-bytes : (a b xs ys : List ℕ) → length a ≡ length b → Bytes a → Bytes b → (a ≡ b → ⊥)
    → common (bits a ++ xs) (bits b ++ ys) ≡ count_leading_zeros (length a * 8) (bit_xor (number a) (number b))
unfolding bits number
common-bytes [] [] xs ys e ha hb h = absurd (h refl)
common-bytes [] (y ∷ b) xs ys e ha hb h = absurd (no e)
  where
    no : {n : ℕ} → 0 ≡ suc n → ⊥
    no q = omega arith
common-bytes (x ∷ a) [] xs ys e ha hb h = absurd (no e)
  where
    no : {n : ℕ} → suc n ≡ 0 → ⊥
    no q = omega arith
common-bytes (x ∷ a) (y ∷ b) xs ys e ha hb h =
    start ∙ ⊎_elim (same_byte (λ q. common-bytes a b xs ys el (λ i. ha (suc i)) (λ i. hb (suc i)) q)) other_byte (eq-or-ne x y) ∙ sym to
  where
    k : ℕ
    k = length a * 8

    el : length a ≡ length b
    el = omega arith

    ek : suc (length a) * 8 ≡ 8 + k
    ek = omega arith

    la : number a < 2 ^ k
    la = number_lt a (λ i. ha (suc i))

    lb : number b < 2 ^ k
    lb = subst (λ (n : ℕ). number b < 2 ^ (n * 8)) (sym el) (number_lt b (λ i. hb (suc i)))

    lr : bit_xor (number a) (number b) < 2 ^ k
    lr = xor_lt k (number a) (number b) la lb

    start : common ((bits_of 8 x ++ bits a) ++ xs) ((bits_of 8 y ++ bits b) ++ ys) ≡ common (bits_of 8 x ++ (bits a ++ xs)) (bits_of 8 y ++ (bits b ++ ys))
    start = ap₂ common (append_assoc (bits_of 8 x) (bits a) xs) (append_assoc (bits_of 8 y) (bits b) ys)

    joined : bit_xor (x * 2 ^ k + number a) (y * 2 ^ (length b * 8) + number b) ≡ bit_xor x y * 2 ^ k + bit_xor (number a) (number b)
    joined = ap (λ (n : ℕ). bit_xor (x * 2 ^ k + number a) (y * 2 ^ (n * 8) + number b)) (sym el) ∙ xor_block k x y (number a) (number b) la lb

    to : count_leading_zeros (suc (length a) * 8) (bit_xor (x * 2 ^ k + number a) (y * 2 ^ (length b * 8) + number b)) ≡ count_leading_zeros (8 + k) (bit_xor x y * 2 ^ k + bit_xor (number a) (number b))
    to = ap₂ (λ (m n : ℕ). count_leading_zeros m n) ek joined

    both : x ≡ y → a ≡ b → ◌≡◌ {A = List ℕ} (x ∷ a) (y ∷ b)
    both p q = cc

    eight-more : common (bits_of 8 x ++ (bits a ++ xs)) (bits_of 8 x ++ (bits b ++ ys)) ≡ 8 + common (bits a ++ xs) (bits b ++ ys)
    eight-more = common-append (bits_of 8 x) (bits a ++ xs) (bits b ++ ys) ∙ ap (λ (n : ℕ). n + common (bits a ++ xs) (bits b ++ ys)) (length-bits_of 8 x)

    same_byte : ((a ≡ b → ⊥) → common (bits a ++ xs) (bits b ++ ys) ≡ count_leading_zeros k (bit_xor (number a) (number b))) → x ≡ y
        → common (bits_of 8 x ++ (bits a ++ xs)) (bits_of 8 y ++ (bits b ++ ys)) ≡ count_leading_zeros (8 + k) (bit_xor x y * 2 ^ k + bit_xor (number a) (number b))
    same_byte ih q =
        let z : bit_xor x y ≡ 0 = subst (λ (n : ℕ). bit_xor x n ≡ 0) q (xor_self x) in
        ap (λ (n : ℕ). common (bits_of 8 x ++ (bits a ++ xs)) (bits_of 8 n ++ (bits b ++ ys))) (sym q) ∙ eight-more
        ∙ ap (λ (n : ℕ). 8 + n) (ih (λ r. h (both q r)))
        ∙ sym (zeros-low 8 k (bit_xor (number a) (number b)) lr)
        ∙ ap (count_leading_zeros (8 + k)) (sym (ap (λ (n : ℕ). n * 2 ^ k + bit_xor (number a) (number b)) z ∙ zero-up (bit_xor (number a) (number b)) (2 ^ k)))

    other_byte : (x ≡ y → ⊥) → common (bits_of 8 x ++ (bits a ++ xs)) (bits_of 8 y ++ (bits b ++ ys)) ≡ count_leading_zeros (8 + k) (bit_xor x y * 2 ^ k + bit_xor (number a) (number b))
    other_byte q =
        common-number 8 x y (bits a ++ xs) (bits b ++ ys) (ha zero) (hb zero) q
        ∙ sym (zeros-high 8 k (bit_xor x y) (bit_xor (number a) (number b)) (xor-pos x y q) (xor_lt 8 x y (ha zero) (hb zero)) lr)
