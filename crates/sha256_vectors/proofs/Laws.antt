-- What the proofs of this crate cite: the value of a digit by its range, and one more byte spelled.
use Prim.Native.Nat.{ℕ, ◌+◌, ◌-◌, ◌*◌, ◌≤◌, ◌<◌}
use native.Mathlib.Numerals.{add-one}
use native.Mathlib.Omega.{arith}
use mathlib.Core.Path.{◌≡◌, refl}
use mathlib.Core.Bool.{Bool, true, false, ◌&&◌}
use mathlib.Core.List.{List}
use lib.ListN.{length, get_or, take, set}
use lib.Seq.{take-suc-set}
use lib.Dec.{leb}
use borrow.Author.Tests.{le-leb, lt-leb}
use Rattle.sha256_vectors.specs.Hex.{between, digit_of, byte_at, spelled}

pub no : {A : Type 0} → false ≡ true → A
no e = let z : ◌≡◌ {A = ℕ} 0 1 = cc in absurd (omega arith)

inside : (a c b : ℕ) → a ≤ c → c ≤ b → between a c b ≡ true
unfolding between
inside a c b h k = rw (le-leb a c h, le-leb c b k)

under : (a c b : ℕ) → c < a → between a c b ≡ false
unfolding between
under a c b h = rw (lt-leb a c h)

over : (a c b : ℕ) → b < c → between a c b ≡ false
unfolding between
over a c b h = rw (lt-leb c b h) (neither (leb a c))
  where
    neither : (t : Bool) → (t && false) ≡ false
    neither true = refl
    neither false = refl

pub digit-below : (c : ℕ) → c < 48 → 16 ≡ digit_of c
unfolding digit_of
digit-below c h = rw (under 48 c 57 h, under 97 c 102 (omega arith))

pub digit-number : (c : ℕ) → 48 ≤ c → c ≤ 57 → c - 48 ≡ digit_of c
unfolding digit_of
digit-number c h k = rw (inside 48 c 57 h k)

pub digit-between : (c : ℕ) → 57 < c → c < 97 → 16 ≡ digit_of c
unfolding digit_of
digit-between c h k = rw (over 48 c 57 h, under 97 c 102 k)

pub digit-letter : (c : ℕ) → 97 ≤ c → c ≤ 102 → c - 97 + 10 ≡ digit_of c
unfolding digit_of
digit-letter c h k = rw (over 48 c 57 (omega arith), inside 97 c 102 h k) (omega arith)

pub digit-above : (c : ℕ) → 102 < c → 16 ≡ digit_of c
unfolding digit_of
digit-above c h = rw (over 48 c 57 (omega arith), over 97 c 102 h)

pub spelled-more : (src out : List ℕ) (i h l : ℕ) → i < length out → take i out ≡ spelled i src
    → h ≡ digit_of (get_or src (2 * i) 0) → l ≡ digit_of (get_or src (2 * i + 1) 0)
    → take (i + 1) (set out i (h * 16 + l)) ≡ spelled (i + 1) src
unfolding spelled byte_at
spelled-more src out i h l k e p q = rw (add-one, take-suc-set out i (h * 16 + l) k, e, p, q)

pub spelled-all : (src out : List ℕ) (i n : ℕ) → i ≡ n → take i out ≡ spelled i src → take n out ≡ spelled n src
spelled-all src out i n h e = rw (← h) e
