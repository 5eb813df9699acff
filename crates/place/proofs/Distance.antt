-- Laws of the distance: it is zero exactly between equal places, symmetric, and tells places apart; the first digit in which two
-- distances differ decides, whatever the digits' width in bytes. Assumes nothing.
use Prim.Native.Nat.{ℕ, zero, suc, ◌+◌, ◌-◌, ◌*◌, ◌/◌, ◌%◌, ◌^◌, ◌<◌, ◌≤◌}
use mathlib.Core.Path.{◌≡◌, refl, sym, ap, ap₂, ◌∙◌, subst}
use mathlib.Core.Logic.{◌⊎◌, inl, inr, ⊎_elim}
use mathlib.Core.Bool.{true, false}
use mathlib.Core.List.{List, ◌++◌}
use native.Mathlib.Nat.{pow-suc}
use native.Mathlib.Omega.{arith}
use lib.Arith.{digits_lt}
use lib.Bits.{bit_xor, differ, xor_block, xor_lt, xor_self, xor_comm, xor_step}
use lib.Dec.{ltb, eqb}
use lib.ListN.{length, get_or, take, drop, length-drop, take-append-drop}
use lib.Seq.{take-add, take_all, drop-cons, length-take-le}
use borrow.Author.Tests.{ltb-true, lt-ltb, le-ltb, eqb-true, eq-eqb}
use Rattle.octets.specs.Octets.{Bytes, part, number}
use Rattle.octets.proofs.Bools.{and_l, and_r, to-false}
use Rattle.octets.proofs.Parts.{bytes_take, bytes_drop}
use Rattle.octets.proofs.Numbers.{number_lt, number_append, number-inj}
use Rattle.octets.proofs.Strings.{three}
use Rattle.place.specs.Place.{is_place, distance, nearer_to}
use Rattle.place.proofs.Bits.{xor-zero}

-- ---- a metric's worth
pub distance_self : (a : List ℕ) → distance a a ≡ 0
unfolding distance
distance_self a = xor_self (number a)

pub distance-sym : (a b : List ℕ) → distance a b ≡ distance b a
unfolding distance
distance-sym a b = xor_comm (number a) (number b)

pub distance-zero : (a b : List ℕ) → length a ≡ length b → Bytes a → Bytes b → distance a b ≡ 0 → a ≡ b
unfolding distance
distance-zero a b e ha hb z = number-inj a b e ha hb (xor-zero (number a) (number b) z)

-- for a fixed target the distance tells places apart
differ-lt : (x y : ℕ) → x < 2 → y < 2 → differ x y < 2
differ-lt zero y p q = q
differ-lt (suc x) zero p q = p
differ-lt (suc x) (suc y) p q = differ-lt x y (omega arith) (omega arith)

differ-inj : (x y t : ℕ) → x < 2 → y < 2 → t < 2 → differ x t ≡ differ y t → x ≡ y
differ-inj zero zero t p q r e = refl
differ-inj zero (suc y) zero p q r e = e
differ-inj zero (suc zero) (suc t) p q r e = absurd (omega arith)
differ-inj zero (suc (suc y)) (suc t) p q r e = absurd (omega arith)
differ-inj (suc x) zero zero p q r e = e
differ-inj (suc zero) zero (suc t) p q r e = absurd (omega arith)
differ-inj (suc (suc x)) zero (suc t) p q r e = absurd (omega arith)
differ-inj (suc x) (suc y) t p q r e = omega arith

xor-inj : (k a b t : ℕ) → a < 2 ^ k → b < 2 ^ k → bit_xor a t ≡ bit_xor b t → a ≡ b
xor-inj zero a b t la lb e = omega arith
xor-inj (suc k) a b t la lb e =
    let p : 2 ^ suc k ≡ 2 ^ k * 2 = pow-suc 2 k in
    let da : differ (a % 2) (t % 2) < 2 = differ-lt (a % 2) (t % 2) (omega arith) (omega arith) in
    let db : differ (b % 2) (t % 2) < 2 = differ-lt (b % 2) (t % 2) (omega arith) (omega arith) in
    let s : bit_xor (a / 2) (t / 2) * 2 + differ (a % 2) (t % 2) ≡ bit_xor (b / 2) (t / 2) * 2 + differ (b % 2) (t % 2) = sym (xor_step a t) ∙ e ∙ xor_step b t in
    let h : bit_xor (a / 2) (t / 2) ≡ bit_xor (b / 2) (t / 2) = omega arith in
    let low : differ (a % 2) (t % 2) ≡ differ (b % 2) (t % 2) = omega arith in
    let q : a / 2 ≡ b / 2 = xor-inj k (a / 2) (b / 2) (t / 2) (omega arith) (omega arith) h in
    let r : a % 2 ≡ b % 2 = differ-inj (a % 2) (b % 2) (t % 2) (omega arith) (omega arith) (omega arith) low in
    omega arith

pub distance-inj : (a b t : List ℕ) → length a ≡ length b → Bytes a → Bytes b → distance a t ≡ distance b t → a ≡ b
unfolding distance
distance-inj a b t e ha hb h =
    number-inj a b e ha hb
    (xor-inj (length a * 8) (number a) (number b) (number t) (number_lt a ha) (subst (λ (n : ℕ). number b < 2 ^ (n * 8)) (sym e) (number_lt b hb)) h)

-- of two places that differ, one is nearer
pub nearer-total : (a b t : List ℕ) → length a ≡ length b → Bytes a → Bytes b → (a ≡ b → ⊥) → (distance a t < distance b t) ⊎ (distance b t < distance a t)
nearer-total a b t e ha hb h =
    ⊎_elim (λ p. inl p) (λ q. ⊎_elim (λ p. inr p) (λ p. absurd (h (distance-inj a b t e ha hb p))) q) (three (distance a t) (distance b t))

-- ---- digits
distance-lt : (m : ℕ) (a x : List ℕ) → length a ≡ m → length x ≡ m → Bytes a → Bytes x → distance a x < 2 ^ (m * 8)
unfolding distance
distance-lt m a x e f ha hx =
    xor_lt (m * 8) (number a) (number x) (subst (λ (z : ℕ). number a < 2 ^ (z * 8)) e (number_lt a ha)) (subst (λ (z : ℕ). number x < 2 ^ (z * 8)) f (number_lt x hx))

distance-append : (m : ℕ) (a a' x x' : List ℕ) → length a' ≡ m → length x' ≡ m → Bytes a' → Bytes x'
    → distance (a ++ a') (x ++ x') ≡ distance a x * 2 ^ (m * 8) + distance a' x'
unfolding distance
distance-append m a a' x x' e f ha hx =
    ap₂ bit_xor
    (subst (λ (z : ℕ). number (a ++ a') ≡ number a * 2 ^ (z * 8) + number a') e (number_append a a'))
    (subst (λ (z : ℕ). number (x ++ x') ≡ number x * 2 ^ (z * 8) + number x') f (number_append x x'))
    ∙ xor_block (m * 8) (number a) (number x) (number a') (number x') (subst (λ (z : ℕ). number a' < 2 ^ (z * 8)) e (number_lt a' ha)) (subst (λ (z : ℕ). number x' < 2 ^ (z * 8)) f (number_lt x' hx))

-- the distance of the first m bytes, and the next k bytes as one digit of it
abbrev pub lead : ℕ → List ℕ → List ℕ → ℕ
lead m a x = distance (take m a) (take m x)

abbrev pub digit : ℕ → ℕ → List ℕ → List ℕ → ℕ
digit k m a x = distance (take k (drop m a)) (take k (drop m x))

digit-length : (k m : ℕ) (l : List ℕ) → m + k ≤ length l → length (take k (drop m l)) ≡ k
digit-length k m l h = length-take-le k (drop m l) (simp length-drop (omega arith))

digit-bytes : (k m : ℕ) (l : List ℕ) → Bytes l → Bytes (take k (drop m l))
digit-bytes k m l h = bytes_take k (drop m l) (bytes_drop m l h)

lead-step : (m k : ℕ) (a x : List ℕ) → m + k ≤ length a → m + k ≤ length x → Bytes a → Bytes x → lead (m + k) a x ≡ lead m a x * 2 ^ (k * 8) + digit k m a x
lead-step m k a x ha hx ba bx =
    ap₂ distance (take-add m k a) (take-add m k x)
    ∙ distance-append k (take m a) (take k (drop m a)) (take m x) (take k (drop m x)) (digit-length k m a ha) (digit-length k m x hx) (digit-bytes k m a ba) (digit-bytes k m x bx)

-- the whole, from its first m bytes and the rest
whole_split : (n m k : ℕ) (a x : List ℕ) → length a ≡ n → length x ≡ n → m + k ≡ n → Bytes a → Bytes x
    → (distance a x ≡ lead m a x * 2 ^ (k * 8) + distance (drop m a) (drop m x)) × (distance (drop m a) (drop m x) < 2 ^ (k * 8))
whole_split n m k a x ea ex e ba bx =
    let la : length (drop m a) ≡ k = simp length-drop (omega arith) in
    let lx : length (drop m x) ≡ k = simp length-drop (omega arith) in (
      ap₂ distance (sym (take-append-drop m a)) (sym (take-append-drop m x)) ∙ distance-append k (take m a) (drop m a) (take m x) (drop m x) la lx (bytes_drop m a ba) (bytes_drop m x bx),
      distance-lt k (drop m a) (drop m x) la lx (bytes_drop m a ba) (bytes_drop m x bx),
    )

-- two strings of n bytes whose first m bytes are equally far from x's: the next k bytes decide where they differ, and else count as equally far too
module _ (n m k : ℕ) (a b x : List ℕ) (la : length a ≡ n) (lb : length b ≡ n) (lx : length x ≡ n) (fits : m + k ≤ n)
    (ba : Bytes a) (bb : Bytes b) (bx : Bytes x) (e : lead m a x ≡ lead m b x) where
  pub lead-same : digit k m a x ≡ digit k m b x → lead (m + k) a x ≡ lead (m + k) b x
  lead-same h =
      lead-step m k a x (omega arith) (omega arith) ba bx ∙ ap₂ (λ (q r : ℕ). q * 2 ^ (k * 8) + r) e h ∙ sym (lead-step m k b x (omega arith) (omega arith) bb bx)

  pub digit-nearer : digit k m a x < digit k m b x → distance a x < distance b x
  digit-nearer h =
      let sa : lead (m + k) a x ≡ lead m a x * 2 ^ (k * 8) + digit k m a x = lead-step m k a x (omega arith) (omega arith) ba bx in
      let sb : lead (m + k) b x ≡ lead m b x * 2 ^ (k * 8) + digit k m b x = lead-step m k b x (omega arith) (omega arith) bb bx in
      let q : lead m a x * 2 ^ (k * 8) ≡ lead m b x * 2 ^ (k * 8) = ap (λ (z : ℕ). z * 2 ^ (k * 8)) e in
      let l : lead (m + k) a x < lead (m + k) b x = omega arith in
      let wa = whole_split n (m + k) (n - (m + k)) a x la lx (omega arith) ba bx in
      let wb = whole_split n (m + k) (n - (m + k)) b x lb lx (omega arith) bb bx in
      let u : lead (m + k) a x * 2 ^ ((n - (m + k)) * 8) + distance (drop (m + k) a) (drop (m + k) x) < lead (m + k) b x * 2 ^ ((n - (m + k)) * 8) = digits_lt l wa.1 in
      omega (arith, wa.0, wb.0)

-- all of it
pub lead-all : (n : ℕ) (a x : List ℕ) → length a ≤ n → length x ≤ n → lead n a x ≡ distance a x
lead-all n a x ha hx = ap₂ distance (take_all n a ha) (take_all n x hx)

pub lead-none : (a b x : List ℕ) → lead 0 a x ≡ lead 0 b x
lead-none a b x = refl

-- a digit of eight bytes is the difference of the words that the code reads
pub word-digit : (m : ℕ) (a x : List ℕ) → digit 8 m a x ≡ bit_xor (number (part a m (m + 8))) (number (part x m (m + 8)))
unfolding distance
word-digit m a x = let e : m + 8 - m ≡ 8 = omega arith in rw e refl

-- a digit of one byte
pub byte-digit : (m : ℕ) (a x : List ℕ) → m < length a → m < length x → digit 1 m a x ≡ bit_xor (get_or a m 0) (get_or x m 0)
unfolding distance number
byte-digit m a x ha hx = rw (drop-cons a m 0 ha, drop-cons x m 0 hx) (ap₂ bit_xor (one (get_or a m 0)) (one (get_or x m 0)))
  where
    one : (b : ℕ) → b * 1 + 0 ≡ b
    one b = omega arith

-- ---- nearer
pub nearer-out : (t a b : List ℕ) → nearer_to t a b ≡ true → distance a t < distance b t
unfolding nearer_to
nearer-out t a b h = ltb-true (distance a t) (distance b t) (and_r (is_place b) _ (and_r (is_place a) _ (and_r (is_place t) _ h)))

module _ (t a b : List ℕ) (lt : length t ≡ 32) (la : length a ≡ 32) (lb : length b ≡ 32) where
  pub nearer-is : nearer_to t a b ≡ ltb (distance a t) (distance b t)
  unfolding nearer_to is_place
  nearer-is = rw (eq-eqb (length t) 32 lt, eq-eqb (length a) 32 la, eq-eqb (length b) 32 lb)

pub nearer-no : (t a b : List ℕ) → (length t ≡ 32 → length a ≡ 32 → length b ≡ 32 → ⊥) → nearer_to t a b ≡ false
unfolding nearer_to is_place
nearer-no t a b h =
    to-false (nearer_to t a b)
    (λ e. h (eqb-true (length t) 32 (and_l (eqb (length t) 32) _ e)) (eqb-true (length a) 32 (and_l (eqb (length a) 32) _ (and_r (eqb (length t) 32) _ e)))
    (eqb-true (length b) 32 (and_l (eqb (length b) 32) _ (and_r (eqb (length a) 32) _ (and_r (eqb (length t) 32) _ e)))))

-- ---- the loop of `nearer_place`: the first i bytes of a and b are equally far, and the next words of all three are read
module _ (x a b : List ℕ) (i : ℕ) (lx : length x ≡ 32) (la : length a ≡ 32) (lb : length b ≡ 32) (bx : Bytes x) (ba : Bytes a) (bb : Bytes b)
    (l : i + 8 ≤ 32) (e : lead i a x ≡ lead i b x) {t v w : ℕ} (et : t ≡ number (part x i (i + 8))) (ev : v ≡ number (part a i (i + 8))) (ew : w ≡ number (part b i (i + 8))) where
  digit-a : bit_xor v t ≡ digit 8 i a x
  digit-a = ap₂ bit_xor ev et ∙ sym (word-digit i a x)

  digit-b : bit_xor w t ≡ digit 8 i b x
  digit-b = ap₂ bit_xor ew et ∙ sym (word-digit i b x)

  pub word-decides : (bit_xor v t ≡ bit_xor w t → ⊥) → ltb (bit_xor v t) (bit_xor w t) ≡ ltb (distance a x) (distance b x)
  word-decides h = ⊎_elim near (λ q. ⊎_elim far (λ q'. absurd (h q')) q) (three (bit_xor v t) (bit_xor w t))
    where
      near : bit_xor v t < bit_xor w t → ltb (bit_xor v t) (bit_xor w t) ≡ ltb (distance a x) (distance b x)
      near q =
          let d : digit 8 i a x < digit 8 i b x = omega (arith, digit-a, digit-b) in
          lt-ltb (bit_xor v t) (bit_xor w t) q ∙ sym (lt-ltb (distance a x) (distance b x) (digit-nearer 32 i 8 a b x la lb lx l ba bb bx e d))

      far : bit_xor w t < bit_xor v t → ltb (bit_xor v t) (bit_xor w t) ≡ ltb (distance a x) (distance b x)
      far q =
          let d : digit 8 i b x < digit 8 i a x = omega (arith, digit-a, digit-b) in
          let n : distance b x < distance a x = digit-nearer 32 i 8 b a x lb la lx l bb ba bx (sym e) d in
          le-ltb (bit_xor v t) (bit_xor w t) (omega arith) ∙ sym (le-ltb (distance a x) (distance b x) (omega arith))

  pub word_same : bit_xor v t ≡ bit_xor w t → lead (i + 8) a x ≡ lead (i + 8) b x
  word_same h = lead-same 32 i 8 a b x la lb lx l ba bb bx e (sym digit-a ∙ h ∙ digit-b)

-- ---- the same byte by byte, for callers that read bytes
module _ (x a b : List ℕ) (i : ℕ) (lx : length x ≡ 32) (la : length a ≡ 32) (lb : length b ≡ 32) (bx : Bytes x) (ba : Bytes a) (bb : Bytes b)
    (l : i < 32) (e : lead i a x ≡ lead i b x) where
  pub byte-nearer : bit_xor (get_or a i 0) (get_or x i 0) < bit_xor (get_or b i 0) (get_or x i 0) → true ≡ ltb (distance a x) (distance b x)
  byte-nearer h =
      let d : digit 1 i a x < digit 1 i b x = omega (arith, byte-digit i a x (omega arith) (omega arith), byte-digit i b x (omega arith) (omega arith)) in
      sym (lt-ltb (distance a x) (distance b x) (digit-nearer 32 i 1 a b x la lb lx (omega arith) ba bb bx e d))

  pub byte-farther : bit_xor (get_or b i 0) (get_or x i 0) < bit_xor (get_or a i 0) (get_or x i 0) → false ≡ ltb (distance a x) (distance b x)
  byte-farther h =
      let d : digit 1 i b x < digit 1 i a x = omega (arith, byte-digit i a x (omega arith) (omega arith), byte-digit i b x (omega arith) (omega arith)) in
      let n : distance b x < distance a x = digit-nearer 32 i 1 b a x lb la lx (omega arith) bb ba bx (sym e) d in
      sym (le-ltb (distance a x) (distance b x) (omega arith))

  pub byte-same : bit_xor (get_or a i 0) (get_or x i 0) ≡ bit_xor (get_or b i 0) (get_or x i 0) → lead (i + 1) a x ≡ lead (i + 1) b x
  byte-same h = lead-same 32 i 1 a b x la lb lx (omega arith) ba bb bx e (byte-digit i a x (omega arith) (omega arith) ∙ h ∙ sym (byte-digit i b x (omega arith) (omega arith)))

pub never-nearer : (x a b : List ℕ) (i : ℕ) → length x ≡ 32 → length a ≡ 32 → length b ≡ 32 → 32 ≤ i → lead i a x ≡ lead i b x → false ≡ ltb (distance a x) (distance b x)
never-nearer x a b i lx la lb h e =
    let q : distance a x ≡ distance b x = sym (lead-all i a x (omega arith) (omega arith)) ∙ e ∙ lead-all i b x (omega arith) (omega arith) in
    sym (le-ltb (distance a x) (distance b x) (omega arith))
