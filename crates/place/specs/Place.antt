-- Places, their distance, and buckets: RULES, Places and contacts.
use Rattle.std.specs.Prelude.{ℕ, zero, suc, ◌/◌, ◌%◌, ◌^◌, Bool, cond, ◌&&◌, List, [], ◌∷◌, ◌++◌, length, ltb, eqb}
use Rattle.std.specs.Int.Bits.{bit_xor}
use Rattle.octets.specs.Octets.{number}
use Rattle.sha256.specs.Sha256.{sha256}

-- "A place is SHA-256 of a peer id or key"
unfoldable pub place_of : List ℕ → List ℕ
place_of name = sha256 name

-- a place has 32 bytes
unfoldable pub is_place : List ℕ → Bool
is_place s = eqb (length s) 32

-- "Distance is the XOR read as a big-endian whole number."
unfoldable pub distance : List ℕ → List ℕ → ℕ
distance a b = bit_xor (number a) (number b)

-- a is nearer to the place t than b; what isn't three places is never nearer
unfoldable pub nearer_to : List ℕ → List ℕ → List ℕ → Bool
nearer_to t a b = is_place t && (is_place a && (is_place b && ltb (distance a t) (distance b t)))

-- the lowest n bits of a number, the highest first, and the bits of a byte string
unfoldable pub bits_of : ℕ → ℕ → List ℕ
bits_of zero x = []
bits_of (suc n) x = x / 2 ^ n ∷ bits_of n (x % 2 ^ n)

unfoldable pub bits : List ℕ → List ℕ
bits [] = []
bits (b ∷ s) = bits_of 8 b ++ bits s

-- how many elements two lists share before the first that differs
unfoldable pub common : List ℕ → List ℕ → ℕ
common [] ys = 0
common (x ∷ xs) [] = 0
common (x ∷ xs) (y ∷ ys) = cond (eqb x y) (suc (common xs ys)) 0

-- the bucket of a place: how many leading bits it shares with ours, 0 to 255 ("the count of leading zero bits of the XOR with our place").
-- 256 is no bucket: our own place has it, and so has what isn't two places
unfoldable pub bucket_of : List ℕ → List ℕ → ℕ
bucket_of p ours = cond (is_place p && is_place ours) (common (bits p) (bits ours)) 256
