-- When a value is a recipe, and which of two values ranks higher: RULES, Recipes.
use Rattle.std.specs.Prelude.{ℕ, zero, suc, ◌+◌, ◌-◌, ◌*◌, ◌/◌, ◌%◌, Bool, true, false, cond, ◌&&◌, ◌||◌, List, [], ◌∷◌, length, drop, ltb, leb, eqb, ℤ, pos, negsuc, nat_abs, ◌-ℤ◌, Option, Some, None}
use Rattle.std.specs.Int.Signed.{le_z}
use Rattle.octets.specs.Octets.{part, lower, little_number}
use Rattle.octets.specs.Search.{all_of}
use Rattle.limits.specs.Limits.{most_value, most_setpoints}
use Rattle.recipe.specs.Limits.{trailer_size, long_trailer, format_one, format_two, turn_max, trim_max, leap_max}
use Rattle.recipe.specs.declared.Point.{Point}
use Rattle.recipe.specs.declared.Setpoint.{Setpoint}

-- ---- numbers in a setpoint
-- zigzag form: 0, -1, 1, -2, 2 .. are 0, 1, 2, 3, 4 ..; `pos n` is n, and `negsuc n` is -(n + 1)
unfoldable pub trim_of : ℕ → ℤ
trim_of z = cond (eqb (z % 2) 0) (pos (z / 2)) (negsuc (z / 2))

unfoldable pub zigzag_of : ℤ → ℕ
zigzag_of (pos n) = n * 2
zigzag_of (negsuc n) = n * 2 + 1

-- a byte with its top bit set, and the varint that goes on after it: minimal if what goes on isn't 0
unfoldable pub continued : ℕ → Option (ℕ × ℕ) → Option (ℕ × ℕ)
continued b (Some (zero, n)) = None
continued b (Some (suc v, n)) = Some (b - 128 + 128 * suc v, suc n)
continued b None = None

-- the minimal varint that opens a byte string: its value, and its size in bytes
unfoldable pub varint : List ℕ → Option (ℕ × ℕ)
varint [] = None
varint (b ∷ s) = cond (ltb b 128) (Some (b, 1)) (continued b (varint s))

abbrev pub on_varint {ℓ} : {A : Type ℓ} → Option (ℕ × ℕ) → (ℕ → ℕ → A) → A → A
on_varint (Some (v, n)) f z = f v n
on_varint None f z = z

-- ---- a list of setpoints
-- "a minimal varint turn, .. then a trim .. in zigzag form, minimal": the setpoint that opens a byte string, and its size in bytes
unfoldable pub point : List ℕ → Option Point
point s = on_varint (varint s) (λ turn n. on_varint (varint (drop n s)) (λ z m. Some (record { turn = turn; trim = trim_of z; size = n + m })) None) None

abbrev pub on_point {ℓ} : {A : Type ℓ} → Option Point → (ℕ → ℤ → ℕ → A) → A → A
on_point (Some p) f z = f p.turn p.trim p.size
on_point None f z = z

pub data Setpoints : Type 0 where
  These : List Setpoint → Setpoints
  NoList : Setpoints

unfoldable pub and_then : ℕ → ℤ → Setpoints → Setpoints
and_then turn trim (These ps) = These (record { turn = turn; trim = trim } ∷ ps)
and_then turn trim NoList = NoList

-- so many setpoints, which fill a byte string exactly
unfoldable pub setpoints : ℕ → List ℕ → Setpoints
setpoints zero [] = These []
setpoints zero (b ∷ s) = NoList
setpoints (suc n) s = on_point (point s) (λ turn trim k. and_then turn trim (setpoints n (drop k s))) NoList

-- the rules of a list, for each setpoint by itself: turn "at most 1,000,000", trim "from -20,000 to 20,000 millinewtons"
unfoldable pub in_range : ℕ → ℤ → Bool
in_range turn trim = leb turn turn_max && (le_z (negsuc (trim_max - 1)) trim && le_z trim (pos trim_max))

-- no leaps (request ix): "neighbouring trims differ by" no "more than 5,000 millinewtons; exactly 5,000 passes"
unfoldable pub no_leap : ℤ → ℤ → Bool
no_leap a b = leb (nat_abs (a -ℤ b)) leap_max

-- and for each after the one before it: turns are "strictly rising", and trims don't leap
unfoldable pub follows : Option Setpoint → ℕ → ℤ → Bool
follows None turn trim = true
follows (Some last) turn trim = ltb last.turn turn && no_leap last.trim trim

unfoldable pub rules : Option Setpoint → List Setpoint → Bool
rules p [] = true
rules p (q ∷ qs) = in_range q.turn q.trim && (follows p q.turn q.trim && rules (Some q) qs)

unfoldable pub ruled : Option Setpoint → Setpoints → Bool
ruled p (These ps) = rules p ps
ruled p NoList = false

unfoldable pub is_list : ℕ → List ℕ → Bool
is_list n s = ruled None (setpoints n s)

-- ---- the trailer, "little-endian"
-- the bytes of a value from d before its end up to e before it
abbrev pub from_end : ℕ → ℕ → List ℕ → List ℕ
from_end d e v = part v (length v - d) (length v - e)

-- "u32 distance back from the value's end to the first setpoint"
unfoldable pub distance_of : List ℕ → ℕ
distance_of v = little_number (from_end 16 12 v)

-- "u16 count"
unfoldable pub count_of : List ℕ → ℕ
count_of v = little_number (from_end 12 10 v)

-- "u16 format"
unfoldable pub format_of : List ℕ → ℕ
format_of v = little_number (from_end 10 8 v)

-- "u64 sequence"
unfoldable pub sequence_of : List ℕ → ℕ
sequence_of v = little_number (from_end 8 0 v)

-- ---- two spools (request xi): "Format 2 has a 24-byte trailer; its last 16 bytes are laid out as before with format 2, and the first 8 hold a second u32 distance
-- back, a u16 count and two zero bytes". The first list is the wrap, the second the core. Format 1 has no such bytes: its core is empty
abbrev pub is_two : List ℕ → Bool
is_two v = eqb (format_of v) format_two

unfoldable pub trailer_of : ℕ → ℕ
trailer_of format = cond (eqb format format_two) long_trailer trailer_size

unfoldable pub core_distance_of : List ℕ → ℕ
core_distance_of v = cond (is_two v) (little_number (from_end 24 20 v)) (distance_of v)

unfoldable pub core_count_of : List ℕ → ℕ
core_count_of v = cond (is_two v) (little_number (from_end 20 18 v)) 0

unfoldable pub pad_of : List ℕ → ℕ
pad_of v = cond (is_two v) (little_number (from_end 18 16 v)) 0

-- "The second list ends where the first begins, the first ends at the trailer"
unfoldable pub wrap_room : List ℕ → List ℕ
wrap_room v = from_end (distance_of v) (trailer_of (format_of v)) v

unfoldable pub core_room : List ℕ → List ℕ
core_room v = from_end (core_distance_of v) (distance_of v) v

-- ---- a recipe
-- the rule of every list: n setpoints, at most so many, fill the room from d before a value's end up to e before it
unfoldable pub list_fills : ℕ → ℕ → ℕ → ℕ → List ℕ → Bool
list_fills most n d e v = all_of (leb e d ∷ leb d (length v) ∷ leb n most ∷ is_list n (from_end d e v) ∷ [])

-- how long a recipe and its lists may be, and whether format 2 is known: boxes of before requests iii and xi had other bounds, and else the same rules
pub record Bounds : Type 0 where
  pub bytes : ℕ
  pub points : ℕ
  pub two : Bool

abbrev pub knows : Bounds → ℕ → Bool
knows b format = eqb format format_one || (b.two && eqb format format_two)

unfoldable pub recipe_within : Bounds → List ℕ → Bool
recipe_within b v =
    all_of
    (leb trailer_size (length v)
    ∷ leb (length v) b.bytes
    ∷ knows b (format_of v)
    ∷ eqb (pad_of v) 0
    ∷ list_fills b.points (count_of v) (distance_of v) (trailer_of (format_of v)) v
    ∷ list_fills b.points (core_count_of v) (core_distance_of v) (distance_of v) v
    ∷ [])

-- "A value has 16 to 3,072 bytes", its counts are "at most 400", and its format is 1 or 2
abbrev pub ours : Bounds
ours = record { bytes = most_value; points = most_setpoints; two = true }

unfoldable pub is_recipe : List ℕ → Bool
is_recipe v = recipe_within ours v

-- "Rank: higher sequence, then bytewise order (a prefix is lower)": a ranks higher than b
unfoldable pub outranks : List ℕ → List ℕ → Bool
outranks a b = ltb (sequence_of b) (sequence_of a) || (eqb (sequence_of b) (sequence_of a) && lower b a)
