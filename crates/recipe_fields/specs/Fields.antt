-- The fields of a recipe, and the way between fields and bytes: RULES, Recipes.
use Rattle.std.specs.Prelude.{ℕ, zero, suc, ◌+◌, ◌/◌, ◌%◌, ◌^◌, List, [], ◌∷◌, ◌++◌, Bool, true, false, cond, ◌&&◌, ◌||◌, length, ltb, leb, eqb, None}
use Rattle.octets.specs.Search.{all_of}
use Rattle.wire.specs.Items.{minimal}
use Rattle.limits.specs.Limits.{most_value, most_setpoints}
use Rattle.recipe.specs.Limits.{format_one, format_two}
use Rattle.recipe.specs.Recipe.{Setpoints, These, NoList, zigzag_of, setpoints, rules, from_end, count_of, format_of, sequence_of, trailer_of, core_distance_of, core_count_of, wrap_room, core_room}
use Rattle.recipe.specs.declared.Setpoint.{Setpoint}
use Rattle.recipe.specs.Recipe.{Bounds, recipe_within, ours}

pub record Fields : Type 0 where
  -- 1 or 2
  pub format : ℕ
  -- the bytes before the lists
  pub note : List ℕ
  -- the list that ends at the trailer
  pub wrap : List Setpoint
  -- the list before it, in format 2 alone
  pub core : List Setpoint
  pub sequence : ℕ

-- ---- from bytes to fields
pub data Reading : Type 0 where
  Holds : Fields → Reading
  NoRecipe : Reading

abbrev pub listed : Setpoints → List Setpoint
listed (These ps) = ps
listed NoList = []

unfoldable pub fields : List ℕ → Fields
fields v =
    record {
      format = format_of v;
      note = from_end (length v) (core_distance_of v) v;
      wrap = listed (setpoints (count_of v) (wrap_room v));
      core = listed (setpoints (core_count_of v) (core_room v));
      sequence = sequence_of v;
    }

-- what a box reads in a value by its bounds: all of its fields, or nothing
unfoldable pub fields_within : Bounds → List ℕ → Reading
fields_within b v = cond (recipe_within b v) (Holds (fields v)) NoRecipe

abbrev pub fields_of : List ℕ → Reading
fields_of v = fields_within ours v

abbrev pub is_read : Reading → Bool
is_read (Holds f) = true
is_read NoRecipe = false

-- ---- from fields to bytes
-- the lowest n bytes of a number, the lowest first
unfoldable pub little_bytes : ℕ → ℕ → List ℕ
little_bytes zero x = []
little_bytes (suc n) x = x % 256 ∷ little_bytes n (x / 256)

-- "a minimal varint turn, .. then a trim .. in zigzag form, minimal"
unfoldable pub point_bytes : Setpoint → List ℕ
point_bytes p = minimal p.turn ++ minimal (zigzag_of p.trim)

unfoldable pub list_bytes : List Setpoint → List ℕ
list_bytes [] = []
list_bytes (p ∷ ps) = point_bytes p ++ list_bytes ps

-- how far before the value's end the lists begin
unfoldable pub wrap_back : Fields → ℕ
wrap_back f = trailer_of f.format + length (list_bytes f.wrap)

unfoldable pub core_back : Fields → ℕ
core_back f = wrap_back f + length (list_bytes f.core)

-- the last 16 bytes, in both formats: "u32 distance .. u16 count .. u16 format .. u64 sequence"
abbrev pub last_bytes : ℕ → ℕ → ℕ → ℕ → List ℕ
last_bytes distance count format sequence = little_bytes 4 distance ++ (little_bytes 2 count ++ (little_bytes 2 format ++ little_bytes 8 sequence))

unfoldable pub last_half : Fields → List ℕ
last_half f = last_bytes (wrap_back f) (length f.wrap) f.format f.sequence

-- the 8 bytes before them, in format 2 alone: "a second u32 distance back, a u16 count and two zero bytes"
abbrev pub second_bytes : ℕ → ℕ → List ℕ
second_bytes distance count = little_bytes 4 distance ++ (little_bytes 2 count ++ little_bytes 2 0)

unfoldable pub second_half : Fields → List ℕ
second_half f = cond (eqb f.format format_two) (second_bytes (core_back f) (length f.core)) []

unfoldable pub bytes_of : Fields → List ℕ
bytes_of f = f.note ++ (list_bytes f.core ++ (list_bytes f.wrap ++ (second_half f ++ last_half f)))

-- format 2, or format 1 with no core
unfoldable pub has_format : ℕ → ℕ → Bool
has_format format cores = eqb format format_two || (eqb format format_one && eqb cores 0)

-- fields that some recipe has: all others are refused with 9
unfoldable pub is_writable : Fields → Bool
is_writable f =
    all_of
    (has_format f.format (length f.core)
    ∷ leb (length f.wrap) most_setpoints
    ∷ leb (length f.core) most_setpoints
    ∷ rules None f.wrap
    ∷ rules None f.core
    ∷ ltb f.sequence (2 ^ 64)
    ∷ leb (length (bytes_of f)) most_value
    ∷ [])
