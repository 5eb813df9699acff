-- Edges of the rule against leaps and of format 2 (RULES, Recipes), by computing. The starred examples on recipes stand in crates/starred.
use Rattle.std.specs.Prelude.{ℕ, ◌≡◌, refl, true, false, List, [], ◌∷◌, pos, negsuc}
use Rattle.octets.specs.Octets.{lower, little_number}
use Rattle.octets.specs.Search.{all_of}
use Rattle.recipe.specs.Recipe.{trim_of, continued, varint, point, and_then, setpoints, These, in_range, no_leap, follows, rules, ruled, is_list, distance_of, count_of, format_of, sequence_of, trailer_of, core_distance_of, core_count_of, pad_of}
use Rattle.recipe.specs.Inner.{short, short_point}
use Rattle.recipe.specs.Faults.{broken as told, first_of, rises, trim_in, stays, setpoint_fault, bytes_fault, list_fault, lists_fault, is_known, fault_of}
use Rattle.recipe.specs.declared.Rule.TheVariants.{TooShort, UnknownFormat, PadNotZero, BadDistance, NoSetpoint, TurnNotRising, BytesLeft}
use Rattle.recipe.specs.declared.Part.TheVariants.{Whole, Wrap, Core}
use Rattle.recipe.specs.Recipe.{wrap_room, core_room, list_fills, recipe_within, is_recipe, outranks}

-- turns 0 and 1, the second trim's two bytes left open: 00 00 01 .. .. 15 00 00 00 02 00 01 00 07 00 00 00 00 00 00 00
abbrev pub second : ℕ → ℕ → List ℕ
second b c = 0x00 ∷ 0x00 ∷ 0x01 ∷ b ∷ c ∷ 0x15 ∷ 0x00 ∷ 0x00 ∷ 0x00 ∷ 0x02 ∷ 0x00 ∷ 0x01 ∷ 0x00 ∷ 0x07 ∷ 0x00 ∷ 0x00 ∷ 0x00 ∷ 0x00 ∷ 0x00 ∷ 0x00 ∷ 0x00 ∷ []

pub record Leaps : Type 0 where
  -- trims 0 and 5,000: "exactly 5,000 passes", either way
  pub edge : (is_recipe (second 0x90 0x4E) ≡ true) × (is_recipe (second 0x8F 0x4E) ≡ true)
  -- trims 0 and 5,001, 0 and -5,001
  pub over : (is_recipe (second 0x92 0x4E) ≡ false) × (is_recipe (second 0x91 0x4E) ≡ false)
  -- of signed trims: -20,000 and 20,000 are one apart in zigzag form
  pub signed : (no_leap (negsuc 19999) (pos 20000) ≡ false) × (no_leap (negsuc 2499) (pos 2500) ≡ true) × (no_leap (pos 2501) (negsuc 2499) ≡ false)

pub leaps : Leaps
unfolding little_number all_of trim_of continued varint point and_then setpoints in_range no_leap follows rules ruled is_list distance_of count_of format_of trailer_of core_distance_of core_count_of pad_of list_fills recipe_within is_recipe
leaps = record {
  edge = (refl, refl);
  over = (refl, refl);
  signed = (refl, refl, refl);
}

-- ---- format 2
-- the worked bytes, with numbers of the trailer left open: 00 00 00 01 1C 00 00 00 01 00 00 00 1A 00 00 00 01 00 02 00 07 00 00 00 00 00 00 00
abbrev pub spools : ℕ → ℕ → ℕ → ℕ → ℕ → ℕ → List ℕ
spools far count low high near format = 0x00 ∷ 0x00 ∷ 0x00 ∷ 0x01 ∷ far ∷ 0x00 ∷ 0x00 ∷ 0x00 ∷ count ∷ 0x00 ∷ low ∷ high ∷ near ∷ 0x00 ∷ 0x00 ∷ 0x00 ∷ 0x01 ∷ 0x00 ∷ format ∷ 0x00 ∷ 0x07 ∷ 0x00 ∷ 0x00 ∷ 0x00 ∷ 0x00 ∷ 0x00 ∷ 0x00 ∷ 0x00 ∷ []

abbrev pub both : List ℕ
both = spools 0x1C 0x01 0x00 0x00 0x1A 0x02

-- the shortest values of sequence 5: 16 bytes in format 1, 24 in format 2
abbrev pub least : List ℕ
least = 0x10 ∷ 0x00 ∷ 0x00 ∷ 0x00 ∷ 0x00 ∷ 0x00 ∷ 0x01 ∷ 0x00 ∷ 0x05 ∷ 0x00 ∷ 0x00 ∷ 0x00 ∷ 0x00 ∷ 0x00 ∷ 0x00 ∷ 0x00 ∷ []

abbrev pub least_two : List ℕ
least_two =
    0x18 ∷ 0x00 ∷ 0x00 ∷ 0x00 ∷ 0x00 ∷ 0x00 ∷ 0x00 ∷ 0x00 ∷ 0x18 ∷ 0x00 ∷ 0x00 ∷ 0x00 ∷ 0x00 ∷ 0x00 ∷ 0x02 ∷ 0x00 ∷ 0x05 ∷ 0x00 ∷ 0x00 ∷ 0x00 ∷ 0x00 ∷ 0x00 ∷ 0x00 ∷ 0x00 ∷ []

-- format 2 in 16 bytes: distance 16
abbrev pub short_two : List ℕ
short_two = 0x10 ∷ 0x00 ∷ 0x00 ∷ 0x00 ∷ 0x00 ∷ 0x00 ∷ 0x02 ∷ 0x00 ∷ 0x05 ∷ 0x00 ∷ 0x00 ∷ 0x00 ∷ 0x00 ∷ 0x00 ∷ 0x00 ∷ 0x00 ∷ []

-- a core that ends at turn 1 with trim -20,000, and a wrap that begins at turn 0 with 20,000
abbrev pub apart : List ℕ
apart =
    0x01 ∷ 0xBF ∷ 0xB8 ∷ 0x02 ∷ 0x00 ∷ 0xC0 ∷ 0xB8 ∷ 0x02 ∷ 0x20 ∷ 0x00 ∷ 0x00 ∷ 0x00 ∷ 0x01 ∷ 0x00 ∷ 0x00 ∷ 0x00 ∷ 0x1C ∷ 0x00 ∷ 0x00 ∷ 0x00 ∷ 0x01 ∷ 0x00 ∷ 0x02 ∷ 0x00 ∷ 0x07 ∷ 0x00 ∷ 0x00 ∷ 0x00 ∷ 0x00
    ∷ 0x00 ∷ 0x00 ∷ 0x00 ∷ []

-- both lists broken, each by a turn that doesn't rise, and after it a trim that leaps: core (1, 0), (0, 6,000), wrap (3, 0), (3, 6,000)
abbrev pub broken : List ℕ
broken =
    0x01 ∷ 0x00 ∷ 0x00 ∷ 0xE0 ∷ 0x5D ∷ 0x03 ∷ 0x00 ∷ 0x03 ∷ 0xE0 ∷ 0x5D ∷ 0x22 ∷ 0x00 ∷ 0x00 ∷ 0x00 ∷ 0x02 ∷ 0x00 ∷ 0x00 ∷ 0x00 ∷ 0x1D ∷ 0x00 ∷ 0x00 ∷ 0x00 ∷ 0x02 ∷ 0x00 ∷ 0x02 ∷ 0x00 ∷ 0x07 ∷ 0x00 ∷ 0x00
    ∷ 0x00 ∷ 0x00 ∷ 0x00 ∷ 0x00 ∷ 0x00 ∷ []

pub record Spools : Type 0 where
  pub taken : (is_recipe both ≡ true) × (sequence_of both ≡ 7)
  pub core : setpoints (core_count_of both) (core_room both) ≡ These (record { turn = 0; trim = pos 0 } ∷ [])
  pub wrap : setpoints (count_of both) (wrap_room both) ≡ These (record { turn = 0; trim = negsuc 0 } ∷ [])
  -- "two zero bytes"
  pub pad : (fault_of (spools 0x1C 0x01 0x01 0x00 0x1A 0x02) ≡ told PadNotZero Whole 0) × (fault_of (spools 0x1C 0x01 0x00 0x01 0x1A 0x02) ≡ told PadNotZero Whole 0)
  -- "no distance is under 24"
  pub under : (fault_of (spools 0x1C 0x01 0x00 0x00 0x17 0x02) ≡ told BadDistance Wrap 0) × (fault_of (spools 0x17 0x00 0x00 0x00 0x17 0x02) ≡ told BadDistance Wrap 0)
  -- the core begins before the value, or past the wrap's beginning
  pub past : (fault_of (spools 0x1D 0x01 0x00 0x00 0x1A 0x02) ≡ told BadDistance Core 0) × (fault_of (spools 0x19 0x01 0x00 0x00 0x1A 0x02) ≡ told BadDistance Core 0)
      × (fault_of (spools 0x19 0x00 0x00 0x00 0x1A 0x02) ≡ told BadDistance Core 0)
  -- a core of two setpoints with bytes for one, and of none with bytes for one
  pub counts : (fault_of (spools 0x1C 0x02 0x00 0x00 0x1A 0x02) ≡ told NoSetpoint Core 1) × (fault_of (spools 0x1C 0x00 0x00 0x00 0x1A 0x02) ≡ told BytesLeft Core 0)
  -- equal distances: the core is empty, and 00 00 is note
  pub empty : is_recipe (spools 0x1A 0x00 0x00 0x00 0x1A 0x02) ≡ true
  pub other : fault_of (spools 0x1C 0x01 0x00 0x00 0x1A 0x03) ≡ told UnknownFormat Whole 0
  -- "Values need 16 or 24 bytes at least"
  pub shortest : (is_recipe least ≡ true) × (is_recipe least_two ≡ true) × (fault_of short_two ≡ told TooShort Whole 0) × (fault_of [] ≡ told TooShort Whole 0)
  -- each list for itself: neither turns nor trims go on from the core to the wrap
  pub each : is_recipe apart ≡ true
  -- the wrap is told before the core, and a turn before the trim beside it
  pub first : fault_of broken ≡ told TurnNotRising Wrap 1
  -- a box that knows format 1 alone takes what it took
  pub alone : (recipe_within (record { bytes = 3072; points = 400; two = false }) least ≡ true) × (recipe_within (record { bytes = 3072; points = 400; two = false }) least_two ≡ false)
  -- "Rank stays sequence, then bytes, across formats"
  pub rank : (outranks least_two least ≡ true) × (outranks both least_two ≡ true)

pub two-spools : Spools
unfolding lower little_number all_of trim_of continued varint point and_then setpoints in_range no_leap follows rules ruled is_list distance_of count_of format_of sequence_of trailer_of core_distance_of core_count_of pad_of wrap_room core_room list_fills recipe_within is_recipe outranks short short_point first_of rises trim_in stays setpoint_fault bytes_fault list_fault lists_fault is_known fault_of
two-spools = record {
  taken = (refl, refl);
  core = refl;
  wrap = refl;
  pad = (refl, refl);
  under = (refl, refl);
  past = (refl, refl, refl);
  counts = (refl, refl);
  empty = refl;
  other = refl;
  shortest = (refl, refl, refl, refl);
  each = refl;
  first = refl;
  alone = (refl, refl);
  rank = (refl, refl);
}
