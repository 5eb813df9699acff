-- Where the fields of a recipe stand in its bytes, and its setpoints as turns and trims: RULES, Recipes.
use Rattle.std.specs.Prelude.{ℕ, ◌-◌, List, [], ◌∷◌, Bool, cond, length, ℤ, Result, Ok, Err}
use Rattle.std.proofs.lemmas.List.Edits.{sets}
use Rattle.octets.specs.Octets.{part}
use Rattle.recipe.specs.Recipe.{setpoints, distance_of, count_of, format_of, sequence_of, trailer_of, core_distance_of, core_count_of, is_recipe}
use Rattle.recipe.specs.declared.Setpoint.{Setpoint}
use Rattle.recipe.specs.Faults.{first_of, fault_of}
use Rattle.recipe.specs.declared.Breach.{Breach}
use Rattle.recipe_fields.specs.Fields.{Fields, fields, Reading, Holds, NoRecipe, listed}
use Rattle.recipe_fields.specs.declared.Spans.{Spans}

-- "The second list ends where the first begins, the first ends at the trailer"; of a value that is no recipe, which is one that breaks a rule (recipe,
-- NoneIsBroken), it is told why, and nothing else
unfoldable pub spans_of : List ℕ → Result Spans Breach
spans_of v =
    first_of (fault_of v)
    (Ok
    (record {
      format = format_of v;
      core = length v - core_distance_of v;
      wrap = length v - distance_of v;
      trailer = length v - trailer_of (format_of v);
      cores = core_count_of v;
      wraps = count_of v;
      sequence = sequence_of v;
    }))

-- so many setpoints in bytes
abbrev pub points_in : ℕ → List ℕ → List Setpoint
points_in n s = listed (setpoints n s)

-- the fields at their spans
unfoldable pub fields_at : List ℕ → Result Spans Breach → Reading
fields_at v (Ok s) =
    Holds
    (record {
      format = s.format;
      note = part v 0 s.core;
      wrap = points_in s.wraps (part v s.wrap s.trailer);
      core = points_in s.cores (part v s.core s.wrap);
      sequence = s.sequence;
    })
fields_at v (Err f) = NoRecipe

-- ---- setpoints as numbers
unfoldable pub turns_of : List Setpoint → List ℕ
turns_of [] = []
turns_of (p ∷ ps) = p.turn ∷ turns_of ps

unfoldable pub trims_of : List Setpoint → List ℤ
trims_of [] = []
trims_of (p ∷ ps) = p.trim ∷ trims_of ps

abbrev pub list_of : Bool → Fields → List Setpoint
list_of core f = cond core f.core f.wrap

-- into lent memory, from its start on and as far as it goes; of a value that is no recipe, nothing
unfoldable pub turns_after : List ℕ → Bool → List ℕ → List ℕ
turns_after v core turns = cond (is_recipe v) (sets turns 0 (turns_of (list_of core (fields v)))) turns

unfoldable pub trims_after : List ℕ → Bool → List ℤ → List ℤ
trims_after v core trims = cond (is_recipe v) (sets trims 0 (trims_of (list_of core (fields v)))) trims
