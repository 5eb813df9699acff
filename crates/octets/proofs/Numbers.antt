-- Laws of the numbers that byte strings are. Assumes nothing.
use Prim.Native.Nat.{ℕ, zero, suc, ◌+◌, ◌*◌, ◌-◌, ◌/◌, ◌%◌, ◌^◌, ◌<◌, ◌≤◌}
use mathlib.Core.Path.{◌≡◌, refl, sym, ap, ap₂, ◌∙◌, subst}
use mathlib.Core.Bool.{false}
use mathlib.Core.List.{List, [], ◌∷◌, ◌++◌}
use native.Mathlib.Nat.{zero-lt-suc, add-mul, mul_assoc, mod-lt, pow-suc, lt_of_lt_of_le}
use native.Mathlib.Numerals.{add-one}
use native.Mathlib.Omega.{arith}
use lib.Arith.{digits_lt, digits_div, digits_mod}
use lib.Pow.{pow-add, pow_mono}
use lib.ListN.{length, get_or, take, drop, length-append, length-take, length-drop, drop_of_length-le, take-append-drop}
use lib.Seq.{take-suc, take-nil, take_all, drop-drop}
use Rattle.octets.proofs.Strings.{same-append, same-no}
use Rattle.octets.specs.Octets.{Bytes, part, same, number, big_endian, little_number}
use Rattle.octets.proofs.Parts.{bytes_take, bytes-part, part-size, part-is, part_at}

-- ---- big-endian
pub number-none : number [] ≡ 0
unfolding number
number-none = refl

pub number_lt : (s : List ℕ) → Bytes s → number s < 2 ^ (length s * 8)
unfolding number
number_lt [] h = zero-lt-suc 0
number_lt (b ∷ s) h =
    let e : suc (length s) * 8 ≡ 8 + length s * 8 = omega arith in
    let p : 2 ^ (suc (length s) * 8) ≡ 2 ^ 8 * 2 ^ (length s * 8) = ap (λ (x : ℕ). 2 ^ x) e ∙ pow-add 2 8 (length s * 8) in
    rw p (digits_lt {m = 2 ^ 8} (h zero) (number_lt s (λ i. h (suc i))))

pub number_append : (s t : List ℕ) → number (s ++ t) ≡ number s * 2 ^ (length t * 8) + number t
unfolding number
number_append [] t = omega arith
number_append (b ∷ s) t =
    let n : ℕ = length s * 8 in
    let m : ℕ = length t * 8 in
    let l : length (s ++ t) * 8 ≡ length s * 8 + length t * 8 = omega (arith, length-append s t) in
    let p : 2 ^ (length (s ++ t) * 8) ≡ 2 ^ (length s * 8) * 2 ^ (length t * 8) = ap (λ (x : ℕ). 2 ^ x) l ∙ pow-add 2 (length s * 8) (length t * 8) in
    let q : b * (2 ^ (length s * 8) * 2 ^ (length t * 8)) ≡ b * 2 ^ (length s * 8) * 2 ^ (length t * 8) = sym (mul_assoc b (2 ^ (length s * 8)) (2 ^ (length t * 8))) in
    let r : (b * 2 ^ (length s * 8) + number s) * 2 ^ (length t * 8) ≡ b * 2 ^ (length s * 8) * 2 ^ (length t * 8) + number s * 2 ^ (length t * 8) = add-mul (b * 2 ^ (length s * 8)) (number s) (2 ^ (length t * 8)) in
    rw p (omega (arith, number_append s t))

pub number-snoc : (s : List ℕ) (b : ℕ) → number (s ++ (b ∷ [])) ≡ number s * 256 + b
unfolding number
number-snoc s b = omega (arith, number_append s (b ∷ []))

-- a number has its bytes
pub number-inj : (s t : List ℕ) → length s ≡ length t → Bytes s → Bytes t → number s ≡ number t → s ≡ t
unfolding number
number-inj [] [] e hs ht q = refl
number-inj [] (y ∷ t) e hs ht q = absurd (no e)
  where
    no : {n : ℕ} → 0 ≡ suc n → ⊥
    no h = omega arith
number-inj (x ∷ s) [] e hs ht q = absurd (no e)
  where
    no : {n : ℕ} → suc n ≡ 0 → ⊥
    no h = omega arith
number-inj (x ∷ s) (y ∷ t) e hs ht q =
    let el : length s ≡ length t = omega arith in
    let ls : number s < 2 ^ (length s * 8) = number_lt s (λ i. hs (suc i)) in
    let lt : number t < 2 ^ (length s * 8) = rw el (number_lt t (λ i. ht (suc i))) in
    let q' : x * 2 ^ (length s * 8) + number s ≡ y * 2 ^ (length s * 8) + number t = q ∙ ap (λ (n : ℕ). y * 2 ^ (n * 8) + number t) (sym el) in
    let xy : x ≡ y = sym (digits_div x ls) ∙ ap (λ (n : ℕ). n / 2 ^ (length s * 8)) q' ∙ digits_div y lt in
    let st : number s ≡ number t = sym (digits_mod x ls) ∙ ap (λ (n : ℕ). n % 2 ^ (length s * 8)) q' ∙ digits_mod y lt in
    let r : s ≡ t = number-inj s t el (λ i. hs (suc i)) (λ i. ht (suc i)) st in
    cc

-- ---- the bytes of a number
pub length-big_endian : (n x : ℕ) → length (big_endian n x) ≡ n
unfolding big_endian
length-big_endian zero x = refl
length-big_endian (suc n) x = ap suc (length-big_endian n x)

pub bytes-big_endian : (n x : ℕ) → Bytes (big_endian n x)
unfolding big_endian
bytes-big_endian zero x i = omega arith
bytes-big_endian (suc n) x zero = mod-lt (x / 2 ^ (n * 8)) (omega arith)
bytes-big_endian (suc n) x (suc i) = bytes-big_endian n x i

-- ---- words: eight bytes from a place on
-- what is left of a string, its first word apart
pub drop-word : (s : List ℕ) (i : ℕ) → drop i s ≡ part s i (i + 8) ++ drop (i + 8) s
drop-word s i = sym (ap₂ (λ (x y : List ℕ). x ++ y) (part-is s i 8) (sym (drop-drop 8 i s)) ∙ cut (drop i s))
  where
    cut : (t : List ℕ) → take 8 t ++ drop 8 t ≡ t
    cut t = take-append-drop 8 t

module _ (a b : List ℕ) (i : ℕ) (la : i + 8 ≤ length a) (lb : i + 8 ≤ length b) (ha : Bytes a) (hb : Bytes b) where
  pub word-inj : number (part a i (i + 8)) ≡ number (part b i (i + 8)) → part a i (i + 8) ≡ part b i (i + 8)
  word-inj e =
      number-inj (part a i (i + 8)) (part b i (i + 8)) (part-size a i 8 la ∙ sym (part-size b i 8 lb)) (bytes-part a i (i + 8) ha) (bytes-part b i (i + 8) hb) e

  pub same_word : number (part a i (i + 8)) ≡ number (part b i (i + 8)) → same (drop i a) (drop i b) ≡ same (drop (i + 8) a) (drop (i + 8) b)
  same_word e =
      ap₂ same (drop-word a i) (drop-word b i) ∙ ap (λ (x : List ℕ). same (x ++ drop (i + 8) a) (part b i (i + 8) ++ drop (i + 8) b)) (word-inj e)
      ∙ same-append (part b i (i + 8)) (drop (i + 8) a) (drop (i + 8) b)

pub other_word : (a b : List ℕ) (i : ℕ) → (number (part a i (i + 8)) ≡ number (part b i (i + 8)) → ⊥) → same (drop i a) (drop i b) ≡ false
other_word a b i h = same-no (drop i a) (drop i b) (λ e. h (ap (λ (t : List ℕ). number (take (i + 8 - i) t)) e))

pub word_lt : (s : List ℕ) (i : ℕ) → i + 8 ≤ length s → Bytes s → number (part s i (i + 8)) < 2 ^ 64
word_lt s i l h = subst (λ (n : ℕ). number (part s i (i + 8)) < 2 ^ (n * 8)) (part-size s i 8 l) (number_lt (part s i (i + 8)) (bytes-part s i (i + 8) h))

-- eight bytes, written out as two halves
pub eight : (s : List ℕ) → length s ≡ 8 → (get_or s 0 0 * 16777216 + get_or s 1 0 * 65536 + get_or s 2 0 * 256 + get_or s 3 0) * 4294967296
    + (get_or s 4 0 * 16777216 + get_or s 5 0 * 65536 + get_or s 6 0 * 256 + get_or s 7 0) ≡ number s
unfolding number
eight (a ∷ b ∷ c ∷ d ∷ e ∷ f ∷ g ∷ h ∷ []) q = omega arith
eight ([]) q = omega arith
eight (a ∷ []) q = omega arith
eight (a ∷ b ∷ []) q = omega arith
eight (a ∷ b ∷ c ∷ []) q = omega arith
eight (a ∷ b ∷ c ∷ d ∷ []) q = omega arith
eight (a ∷ b ∷ c ∷ d ∷ e ∷ []) q = omega arith
eight (a ∷ b ∷ c ∷ d ∷ e ∷ f ∷ []) q = omega arith
eight (a ∷ b ∷ c ∷ d ∷ e ∷ f ∷ g ∷ []) q = omega arith
eight (a ∷ b ∷ c ∷ d ∷ e ∷ f ∷ g ∷ h ∷ i ∷ l) q = omega arith

-- the same at a place of a longer string
pub eight-at : (s : List ℕ) (at : ℕ) → at + 8 ≤ length s
    → (get_or s at 0 * 16777216 + get_or s (at + 1) 0 * 65536 + get_or s (at + 2) 0 * 256 + get_or s (at + 3) 0) * 4294967296
    + (get_or s (at + 4) 0 * 16777216 + get_or s (at + 5) 0 * 65536 + get_or s (at + 6) 0 * 256 + get_or s (at + 7) 0) ≡ number (part s at (at + 8))
eight-at s at h =
    let z : at + 0 ≡ at = omega arith in
    let p : (i : ℕ) → i < 8 → get_or (part s at (at + 8)) i 0 ≡ get_or s (at + i) 0 = λ i l. part_at s at (at + 8) i (omega arith) in
    let p0 : get_or (part s at (at + 8)) 0 0 ≡ get_or s at 0 = p 0 (omega arith) ∙ ap (λ (k : ℕ). get_or s k 0) z in
    omega (arith, eight (part s at (at + 8)) (part-size s at 8 h), p 1 (omega arith), p 2 (omega arith), p 3 (omega arith), p 4 (omega arith), p 5 (omega arith), p 6 (omega arith), p 7 (omega arith))

-- past the end, and short of a word
pub word_none : (s : List ℕ) (at : ℕ) → length s < at → number (part s at (at + 8)) ≡ 0
word_none s at h = let l : length s ≤ at = omega arith in rw (drop_of_length-le s l) (ap number (take-nil (at + 8 - at)) ∙ number-none)

pub word-few : (s : List ℕ) (at n : ℕ) → at ≤ length s → length s - at < 8 → n ≡ length s → number (part s at n) ≡ number (part s at (at + 8))
word-few s at n h l e = ap number (take_all (n - at) (drop at s) (simp length-drop (omega arith)) ∙ sym (take_all (at + 8 - at) (drop at s) (simp length-drop (omega arith))))

-- one byte more, as a loop reads them
pub number_more : (s : List ℕ) (i : ℕ) → i < length s → number (take (i + 1) s) ≡ number (take i s) * 256 + get_or s i 0
number_more s i h = rw (add-one i, take-suc s i 0 h) (number-snoc (take i s) (get_or s i 0))

-- seven bytes leave room for one more in a word
pub few-lt : (s : List ℕ) (i : ℕ) → Bytes s → i < 8 → number (take i s) < 2 ^ 56
few-lt s i h l =
    lt_of_lt_of_le (number_lt (take i s) (bytes_take i s h))
    (pow_mono {j = 56} (omega (arith, length-take i s)))

-- ---- the lowest byte first
pub little-lt : (s : List ℕ) → Bytes s → little_number s < 256 ^ length s
unfolding little_number
little-lt [] h = zero-lt-suc 0
little-lt (b ∷ s) h =
    let p : 256 ^ suc (length s) ≡ 256 ^ length s * 256 = pow-suc 256 (length s) in
    rw p (omega (arith, h zero, little-lt s (λ i. h (suc i))))
