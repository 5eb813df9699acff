-- A recipe written from what a caller gives: RULES, Recipes.
use Rattle.std.specs.Prelude.{ℕ, ◌+◌, List, [], ◌∷◌, ◌++◌, Bool, cond, ◌&&◌, ◌||◌, length, leb, eqb, ℤ, None, Result, Ok, ⊤, is_ok}
use Rattle.std.proofs.lemmas.List.Edits.{sets}
use Rattle.limits.specs.Limits.{most_value, most_setpoints}
use Rattle.recipe.specs.Limits.{format_two}
use Rattle.recipe.specs.declared.Setpoint.{Setpoint}
use Rattle.recipe.specs.Faults.{broken, unless, first_of, points_fault, is_known}
use Rattle.recipe.specs.declared.Rule.TheVariants.{TooLong, UnknownFormat, CoreInFormatOne, TooManySetpoints, Unpaired}
use Rattle.recipe.specs.declared.Part.{Part}
use Rattle.recipe.specs.declared.Part.TheVariants.{Whole, Wrap, Core}
use Rattle.recipe.specs.declared.Breach.{Breach}
use Rattle.recipe_fields.specs.Fields.{Fields, core_back, last_bytes, second_bytes, bytes_of}

-- what a caller gives: a list as its turns and its trims
pub record Given : Type 0 where
  pub format : ℕ
  pub note : List ℕ
  pub wrap_turns : List ℕ
  pub wrap_trims : List ℤ
  pub core_turns : List ℕ
  pub core_trims : List ℤ
  pub sequence : ℕ

abbrev pub given : ℕ → List ℕ → List ℕ → List ℤ → List ℕ → List ℤ → ℕ → Given
given format note wrap_turns wrap_trims core_turns core_trims sequence =
    record {
      format = format;
      note = note;
      wrap_turns = wrap_turns;
      wrap_trims = wrap_trims;
      core_turns = core_turns;
      core_trims = core_trims;
      sequence = sequence;
    }

unfoldable pub pairs : List ℕ → List ℤ → List Setpoint
pairs [] ms = []
pairs (t ∷ ts) [] = []
pairs (t ∷ ts) (m ∷ ms) = record { turn = t; trim = m } ∷ pairs ts ms

abbrev pub fields_in : Given → Fields
fields_in g =
    record {
      format = g.format;
      note = g.note;
      wrap = pairs g.wrap_turns g.wrap_trims;
      core = pairs g.core_turns g.core_trims;
      sequence = g.sequence;
    }

-- ---- which rule is broken by fields that no recipe has: the first of them in the order of these definitions
unfoldable pub pairs_fault : Part → List ℕ → List ℤ → Result ⊤ Breach
pairs_fault part ts ms =
    unless (eqb (length ts) (length ms)) (broken Unpaired part 0)
    (unless (leb (length ts) most_setpoints) (broken TooManySetpoints part 0) (points_fault part 0 None (pairs ts ms)))

-- format 1 has no core
unfoldable pub core_fits : ℕ → ℕ → ℕ → Bool
core_fits format turns trims = eqb format format_two || (eqb turns 0 && eqb trims 0)

-- how many bytes a recipe of these fields has
abbrev pub size_of : Fields → ℕ
size_of f = length f.note + core_back f

unfoldable pub given_fault : Given → Result ⊤ Breach
given_fault g =
    unless (is_known g.format) (broken UnknownFormat Whole 0)
    (unless (core_fits g.format (length g.core_turns) (length g.core_trims)) (broken CoreInFormatOne Core 0)
    (first_of (pairs_fault Wrap g.wrap_turns g.wrap_trims)
    (first_of (pairs_fault Core g.core_turns g.core_trims) (unless (leb (size_of (fields_in g)) most_value) (broken TooLong Whole 0) (Ok tt)))))

-- ---- "the bytes, or 9": "A buffer that is too short gets the bytes as far as it goes, and the whole length is told"
unfoldable pub written_of : Given → Result ℕ Breach
written_of g = first_of (given_fault g) (Ok (length (bytes_of (fields_in g))))

unfoldable pub after_of : Given → List ℕ → List ℕ
after_of g buf = cond (is_ok (given_fault g)) (sets buf 0 (bytes_of (fields_in g))) buf

-- ---- what the parts of the code give
abbrev pub trailer_bytes : ℕ → ℕ → ℕ → ℕ → ℕ → ℕ → List ℕ
trailer_bytes format far cores near wraps sequence = cond (eqb format format_two) (second_bytes far cores) [] ++ last_bytes near wraps format sequence
