-- The limits of a recipe alone: RULES, Recipes. src/lib.rt has the same numbers as constants.
use Rattle.std.specs.Prelude.{ℕ}

-- the trailer of format 1, which is the shortest value
abbrev pub trailer_size : ℕ
trailer_size = 16

-- the trailer of format 2
abbrev pub long_trailer : ℕ
long_trailer = 24

abbrev pub format_one : ℕ
format_one = 1

abbrev pub format_two : ℕ
format_two = 2

abbrev pub turn_max : ℕ
turn_max = 1000000

-- in millinewtons, either way
abbrev pub trim_max : ℕ
trim_max = 20000

-- of neighbouring trims: in millinewtons, either way
abbrev pub leap_max : ℕ
leap_max = 5000
