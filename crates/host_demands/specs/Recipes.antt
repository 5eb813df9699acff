-- The calls on recipes, on bytes and numbers (RULES, Recipes): what starterbell_recipe_write writes, starterbell_recipe_read and starterbell_recipe_setpoints give back.
-- proofs/Recipes.antt shows it.
use Rattle.std.specs.Prelude.{ℕ, ◌-◌, ◌<◌, ◌≤◌, ◌^◌, ◌≡◌, Bool, cond, List, length, take, drop, get_or, ℤ}
use Rattle.octets.specs.Octets.{part}
use Rattle.recipe.specs.Recipe.{trailer_of, is_recipe}
use Rattle.recipe_fields.specs.Fields.{Fields, Holds, fields_of, bytes_of}
use Rattle.recipe_fields.specs.Places.{spans_of, turns_of, trims_of, list_of, turns_after, trims_after}
use Rattle.recipe_fields.specs.Writing.{Given, fields_in, written_of, after_of}
use Rattle.host_answers.specs.Answers.{spans_number, spans_numbers, setpoints_number, recipe_number, recipe_numbers}

-- of a value with these fields the numbers in `out`, where there is room for the seven, show format, note, counts and sequence, and in memory that has room for them the
-- setpoints of a list are its turns and trims
pub record Shown (v : List ℕ) (f : Fields) : Type 0 where
  pub code : spans_number (spans_of v) ≡ 64
  pub format : (out : List ℕ) → 7 ≤ length out → get_or (spans_numbers out (spans_of v)) 0 0 ≡ f.format
  pub note : (out : List ℕ) → 7 ≤ length out → part v 0 (get_or (spans_numbers out (spans_of v)) 1 0) ≡ f.note
  pub cores : (out : List ℕ) → 7 ≤ length out → get_or (spans_numbers out (spans_of v)) 4 0 ≡ length f.core
  pub wraps : (out : List ℕ) → 7 ≤ length out → get_or (spans_numbers out (spans_of v)) 5 0 ≡ length f.wrap
  pub sequence : (out : List ℕ) → 7 ≤ length out → get_or (spans_numbers out (spans_of v)) 6 0 ≡ f.sequence
  -- the wrap ends where the trailer begins
  pub trailer : (out : List ℕ) → 7 ≤ length out → get_or (spans_numbers out (spans_of v)) 3 0 ≡ length v - trailer_of f.format
  pub turns : (core : Bool) (turns : List ℕ) → length (list_of core f) ≤ length turns → take (length (list_of core f)) (turns_after v core turns) ≡ turns_of (list_of core f)
  pub trims : (core : Bool) (trims : List ℤ) → length (list_of core f) ≤ length trims → take (length (list_of core f)) (trims_after v core trims) ≡ trims_of (list_of core f)

pub record RecipesCross : Type 0 where
  -- 64 exactly for a recipe, else 9
  pub reads : (v : List ℕ) → (spans_number (spans_of v) ≡ cond (is_recipe v) 64 9) × (setpoints_number (is_recipe v) ≡ cond (is_recipe v) 64 9)
  pub shows : (v : List ℕ) (f : Fields) → fields_of v ≡ Holds f → Shown v f
  -- a write that gives 64 tells the length; a buffer with room for as much begins with the recipe, its other bytes stay, and the fields are read back
  pub writes : (g : Given) → g.sequence < 2 ^ 64 → recipe_number (written_of g) ≡ 64 → (buf : List ℕ) → length (bytes_of (fields_in g)) ≤ length buf
      → let n = length (bytes_of (fields_in g)) in
      (take n (after_of g buf) ≡ bytes_of (fields_in g)) × (drop n (after_of g buf) ≡ drop n buf) × ((out : List ℕ) → 1 ≤ length out → get_or (recipe_numbers out (written_of g)) 0 0 ≡ n)
      × Shown (take n (after_of g buf)) (fields_in g)
  -- else it gives 9, and writes nothing
  pub refuses : (g : Given) → (recipe_number (written_of g) ≡ 64 → ⊥) → (recipe_number (written_of g) ≡ 9) × ((buf : List ℕ) → after_of g buf ≡ buf)
