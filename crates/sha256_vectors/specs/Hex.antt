-- Hexadecimal text in lower case, as the vector files write messages and digests.
use Rattle.std.specs.Prelude.{ℕ, zero, suc, ◌+◌, ◌-◌, ◌*◌, Bool, cond, ◌&&◌, List, [], ◌∷◌, ◌++◌, get_or, leb}

-- c lies from a to b
unfoldable pub between : ℕ → ℕ → ℕ → Bool
between a c b = leb a c && leb c b

-- the value of the digit c, of '0' to '9' and 'a' to 'f'; 16 where c is no digit
unfoldable pub digit_of : ℕ → ℕ
digit_of c = cond (between 48 c 57) (c - 48) (cond (between 97 c 102) (c - 97 + 10) 16)

-- the byte that the two digits at 2i spell
unfoldable pub byte_at : List ℕ → ℕ → ℕ
byte_at s i = digit_of (get_or s (2 * i) 0) * 16 + digit_of (get_or s (2 * i + 1) 0)

-- the first n bytes that the digits of s spell
unfoldable pub spelled : ℕ → List ℕ → List ℕ
spelled zero s = []
spelled (suc n) s = spelled n s ++ (byte_at s n ∷ [])
