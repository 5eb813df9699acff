-- What reading and writing of a recipe's fields come to: RULES, Recipes. proofs/Claims.antt shows all of it.
use Rattle.std.specs.Prelude.{ℕ, ◌<◌, ◌^◌, ◌≡◌, Bool, true, false, cond, ◌&&◌, ◌||◌, List, [], ◌∷◌, length, ℤ, ltb, eqb, Err, is_ok}
use Rattle.std.proofs.lemmas.List.Edits.{sets}
use Rattle.octets.specs.Octets.{Bytes, lower}
use Rattle.octets.specs.Search.{all_of}
use Rattle.recipe.specs.Recipe.{format_of, Bounds, is_recipe, outranks}
use Rattle.recipe.specs.Faults.{fault_of}
use Rattle.recipe_fields.specs.Fields.{Fields, Holds, NoRecipe, fields_within, fields_of, is_read, bytes_of, is_writable}
use Rattle.recipe.specs.declared.Breach.{Breach}
use Rattle.recipe_fields.specs.Places.{spans_of, fields_at, turns_after, trims_after}
use Rattle.recipe_fields.specs.Writing.{Given, fields_in, given_fault, written_of}

pub record Claims : Type 0 where
  -- both ways between fields and bytes, in both formats: what is written is read back as it was, and what is read is written back as it was
  pub reading-after-writing : (f : Fields) → is_writable f ≡ true → fields_of (bytes_of f) ≡ Holds f
  pub writing-after-reading : (v : List ℕ) (f : Fields) → Bytes v → fields_of v ≡ Holds f → (bytes_of f ≡ v) × (is_writable f ≡ true)
  -- a value has fields exactly if it is a recipe, and they stand where the reader says
  pub read-recipe : (v : List ℕ) → is_read (fields_of v) ≡ is_recipe v
  pub in_place : (v : List ℕ) → fields_at v (spans_of v) ≡ fields_of v
  -- the writer refuses what has a turn without a trim or a trim without a turn, and fields that no byte string has, and nothing else
  pub written : (g : Given) → g.sequence < 2 ^ 64
      → is_ok (given_fault g) ≡ all_of (eqb (length g.wrap_turns) (length g.wrap_trims) ∷ eqb (length g.core_turns) (length g.core_trims) ∷ is_writable (fields_in g) ∷ [])
  pub refused_none : (f : Fields) → is_writable f ≡ false → (v : List ℕ) → Bytes v → fields_of v ≡ Holds f → ⊥
  -- and what is handed to the writer comes out of the reader number by number: its setpoints, of either list, into memory as long as they are
  pub same-setpoints : (g : Given) → g.sequence < 2 ^ 64 → is_ok (given_fault g) ≡ true → (core : Bool) (turns : List ℕ) (trims : List ℤ)
      → (turns_after (bytes_of (fields_in g)) core turns ≡ sets turns 0 (cond core g.core_turns g.wrap_turns))
      × (trims_after (bytes_of (fields_in g)) core trims ≡ sets trims 0 (cond core g.core_trims g.wrap_trims))
  -- of a value that is no recipe no setpoint is given
  pub none-given : (v : List ℕ) → is_recipe v ≡ false → (core : Bool) (turns : List ℕ) (trims : List ℤ) → (turns_after v core turns ≡ turns) × (trims_after v core trims ≡ trims)
  -- where either refuses it tells a rule that is broken
  pub read-tells : (v : List ℕ) (f : Breach) → spans_of v ≡ Err f → fault_of v ≡ Err f
  pub write-tells : (g : Given) (f : Breach) → written_of g ≡ Err f → given_fault g ≡ Err f
  -- "A box knowing only format 1 .. never shows a part of it": in a value of format 2 it reads nothing
  pub shows_nothing : (b : Bounds) (v : List ℕ) → b.two ≡ false → format_of v ≡ 2 → fields_within b v ≡ NoRecipe
  -- "Rank stays sequence, then bytes, across formats"
  pub rank : (f g : Fields) → is_writable f ≡ true → is_writable g ≡ true
      → outranks (bytes_of f) (bytes_of g) ≡ (ltb g.sequence f.sequence || (eqb g.sequence f.sequence && lower (bytes_of g) (bytes_of f)))
