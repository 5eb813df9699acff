-- Byte strings: the words that every other crate's definitions use. A byte string is a list of numbers below 256.
use Rattle.std.specs.Prelude.{ℕ, zero, suc, ◌+◌, ◌-◌, ◌*◌, ◌/◌, ◌%◌, ◌^◌, ◌<◌, Bool, true, false, ◌&&◌, ◌||◌, List, [], ◌∷◌, length, get_or, take, drop, ltb, eqb}

-- each element is a byte; a slice of bytes always holds such a list
abbrev pub Bytes : List ℕ → Type 0
Bytes s = (i : ℕ) → get_or s i 0 < 256

-- the part of s from a up to, not including, e: what the code writes as s[a..e]
abbrev pub part : List ℕ → ℕ → ℕ → List ℕ
part s a e = take (e - a) (drop a s)

-- the same bytes
unfoldable pub same : List ℕ → List ℕ → Bool
same [] [] = true
same [] (y ∷ b) = false
same (x ∷ a) [] = false
same (x ∷ a) (y ∷ b) = eqb x y && same a b

-- a comes before b in bytewise order, in which a prefix is lower
unfoldable pub lower : List ℕ → List ℕ → Bool
lower [] [] = false
lower [] (y ∷ b) = true
lower (x ∷ a) [] = false
lower (x ∷ a) (y ∷ b) = ltb x y || (eqb x y && lower a b)

-- s begins with the bytes of p
unfoldable pub starts_with : List ℕ → List ℕ → Bool
starts_with s p = same (take (length p) s) p

-- the number that a byte string is, the highest byte first
unfoldable pub number : List ℕ → ℕ
number [] = 0
number (b ∷ s) = b * 2 ^ (length s * 8) + number s

-- the lowest n bytes of a number, the highest of them first
unfoldable pub big_endian : ℕ → ℕ → List ℕ
big_endian zero x = []
big_endian (suc n) x = x / 2 ^ (n * 8) % 256 ∷ big_endian n x

-- the number that a byte string is, the lowest byte first
unfoldable pub little_number : List ℕ → ℕ
little_number [] = 0
little_number (b ∷ s) = b + little_number s * 256
