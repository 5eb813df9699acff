-- The claims of specs/Claims.antt. Assumes nothing.
use Prim.Native.Nat.{ℕ, ◌^◌, ◌<◌}
use mathlib.Core.Path.{◌≡◌, refl, sym, ap, ◌∙◌}
use mathlib.Core.Bool.{Bool, true, false, cond, ◌&&◌, ◌||◌}
use mathlib.Core.List.{List, [], ◌∷◌}
use native.Mathlib.Omega.{arith}
use lib.ListN.{length}
use lib.Seq.{sets}
use lib.IntN.{ℤ}
use lib.Dec.{ltb, eqb}
use borrow.Author.Tests.{eqb-true}
use Rattle.std.specs.Prelude.{Result, Ok, Err, ⊤, is_ok}
use Rattle.octets.specs.Octets.{Bytes, lower}
use Rattle.octets.specs.Search.{all_of}
use Rattle.octets.proofs.Bools.{not-both, cond_yes, cond_no, all_head, all_rest}
use Rattle.recipe.specs.Recipe.{format_of, Bounds, recipe_within, ours, is_recipe, outranks}
use Rattle.recipe.specs.Faults.{first_of, fault_of}
use Rattle.recipe.specs.declared.Breach.{Breach}
use Rattle.recipe.proofs.Trailer.{recipe-is}
use Rattle.recipe.proofs.Bounded.{one-alone}
use Rattle.recipe_fields.specs.Fields.{Fields, Holds, NoRecipe, fields, fields_within, fields_of, is_read, bytes_of, is_writable}
use Rattle.recipe_fields.specs.Places.{spans_of, turns_of, trims_of, list_of, turns_after, trims_after}
use Rattle.recipe_fields.specs.Writing.{Given, fields_in, pairs, given_fault, written_of}
use Rattle.recipe_fields.specs.Claims.{Claims}
use Rattle.recipe_fields.proofs.Forth.{writable, is-sequence, written_read}
use Rattle.recipe_fields.proofs.Back.{read-bytes, read-writable}
use Rattle.recipe_fields.proofs.Places.{spans-fields}
use Rattle.recipe_fields.proofs.Judging.{writable-given}

read-recipe : (v : List ℕ) → is_read (fields_of v) ≡ is_recipe v
unfolding fields_within is_recipe
read-recipe v = go (recipe_within ours v)
  where
    go : (b : Bool) → is_read (cond b (Holds (fields v)) NoRecipe) ≡ b
    go true = refl
    go false = refl

writing-after-reading : (v : List ℕ) (f : Fields) → Bytes v → fields_of v ≡ Holds f → (bytes_of f ≡ v) × (is_writable f ≡ true)
unfolding fields_within
writing-after-reading v f bs e = go (recipe_within ours v) refl e
  where
    go : (b : Bool) → recipe_within ours v ≡ b → cond b (Holds (fields v)) NoRecipe ≡ Holds f → (bytes_of f ≡ v) × (is_writable f ≡ true)
    go false h q = let z : ◌≡◌ {A = ℕ} 0 1 = cc in absurd (omega arith)
    go true h q = let g : fields v ≡ f = cc in rw (sym g) (read-bytes v bs (recipe-is ours v h), read-writable v bs (recipe-is ours v h))

refused_none : (f : Fields) → is_writable f ≡ false → (v : List ℕ) → Bytes v → fields_of v ≡ Holds f → ⊥
refused_none f h v bs e = not-both (is_writable f) (writing-after-reading v f bs e).1 h

shows_nothing : (b : Bounds) (v : List ℕ) → b.two ≡ false → format_of v ≡ 2 → fields_within b v ≡ NoRecipe
unfolding fields_within
shows_nothing b v h e = cond_no (recipe_within b v) (Holds (fields v)) NoRecipe (one-alone b v h e)

rank : (f g : Fields) → is_writable f ≡ true → is_writable g ≡ true
    → outranks (bytes_of f) (bytes_of g) ≡ (ltb g.sequence f.sequence || (eqb g.sequence f.sequence && lower (bytes_of g) (bytes_of f)))
unfolding outranks
rank f g h k = rw (is-sequence f (writable f h), is-sequence g (writable g k))

-- ---- number by number
turns-pairs : (ts : List ℕ) (ms : List ℤ) → length ts ≡ length ms → turns_of (pairs ts ms) ≡ ts
unfolding turns_of pairs
turns-pairs [] ms e = refl
turns-pairs (t ∷ ts) [] e = absurd (omega (arith, e))
turns-pairs (t ∷ ts) (m ∷ ms) e = ap (λ (x : List ℕ). t ∷ x) (turns-pairs ts ms (omega (arith, e)))

trims-pairs : (ts : List ℕ) (ms : List ℤ) → length ts ≡ length ms → trims_of (pairs ts ms) ≡ ms
unfolding trims_of pairs
trims-pairs [] [] e = refl
trims-pairs [] (m ∷ ms) e = absurd (omega (arith, e))
trims-pairs (t ∷ ts) [] e = absurd (omega (arith, e))
trims-pairs (t ∷ ts) (m ∷ ms) e = ap (λ (x : List ℤ). m ∷ x) (trims-pairs ts ms (omega (arith, e)))

-- a value whose fields are read is a recipe, and these are its fields
pub read-fields : (v : List ℕ) (f : Fields) → fields_of v ≡ Holds f → (is_recipe v ≡ true) × (fields v ≡ f)
unfolding fields_within is_recipe
read-fields v f e = go (recipe_within ours v) refl e
  where
    go : (b : Bool) → recipe_within ours v ≡ b → cond b (Holds (fields v)) NoRecipe ≡ Holds f → (recipe_within ours v ≡ true) × (fields v ≡ f)
    go false h q = let z : ◌≡◌ {A = ℕ} 0 1 = cc in absurd (omega arith)
    go true h q = let x : fields v ≡ f = cc in (h, x)

module _ (g : Given) (h : g.sequence < 2 ^ 64) (k : is_ok (given_fault g) ≡ true) where
  tests : all_of (eqb (length g.wrap_turns) (length g.wrap_trims) ∷ eqb (length g.core_turns) (length g.core_trims) ∷ is_writable (fields_in g) ∷ []) ≡ true
  tests = sym (writable-given g.format g.note g.wrap_turns g.wrap_trims g.core_turns g.core_trims g.sequence h) ∙ k

  wrap-paired : length g.wrap_turns ≡ length g.wrap_trims
  wrap-paired = eqb-true (length g.wrap_turns) (length g.wrap_trims) (all_head (eqb (length g.wrap_turns) (length g.wrap_trims)) _ tests)

  core-paired : length g.core_turns ≡ length g.core_trims
  core-paired =
      eqb-true (length g.core_turns) (length g.core_trims)
      (all_head (eqb (length g.core_turns) (length g.core_trims)) _ (all_rest (eqb (length g.wrap_turns) (length g.wrap_trims)) _ tests))

  writes : is_writable (fields_in g) ≡ true
  writes =
      all_head (is_writable (fields_in g)) []
      (all_rest (eqb (length g.core_turns) (length g.core_trims)) _ (all_rest (eqb (length g.wrap_turns) (length g.wrap_trims)) _ tests))

  back : (is_recipe (bytes_of (fields_in g)) ≡ true) × (fields (bytes_of (fields_in g)) ≡ fields_in g)
  back = read-fields (bytes_of (fields_in g)) (fields_in g) (written_read (fields_in g) (writable (fields_in g) writes))

  turns-back : (core : Bool) → turns_of (list_of core (fields_in g)) ≡ cond core g.core_turns g.wrap_turns
  turns-back true = turns-pairs g.core_turns g.core_trims core-paired
  turns-back false = turns-pairs g.wrap_turns g.wrap_trims wrap-paired

  trims-back : (core : Bool) → trims_of (list_of core (fields_in g)) ≡ cond core g.core_trims g.wrap_trims
  trims-back true = trims-pairs g.core_turns g.core_trims core-paired
  trims-back false = trims-pairs g.wrap_turns g.wrap_trims wrap-paired

  same-setpoints : (core : Bool) (turns : List ℕ) (trims : List ℤ)
      → (turns_after (bytes_of (fields_in g)) core turns ≡ sets turns 0 (cond core g.core_turns g.wrap_turns))
      × (trims_after (bytes_of (fields_in g)) core trims ≡ sets trims 0 (cond core g.core_trims g.wrap_trims))
  unfolding turns_after trims_after
  same-setpoints core turns trims = (
    cond_yes (is_recipe (bytes_of (fields_in g))) _ turns back.0 ∙ ap (λ (f : Fields). sets turns 0 (turns_of (list_of core f))) back.1 ∙ ap (λ (x : List ℕ). sets turns 0 x) (turns-back core),
    cond_yes (is_recipe (bytes_of (fields_in g))) _ trims back.0 ∙ ap (λ (f : Fields). sets trims 0 (trims_of (list_of core f))) back.1 ∙ ap (λ (x : List ℤ). sets trims 0 x) (trims-back core),
  )

none-given : (v : List ℕ) → is_recipe v ≡ false → (core : Bool) (turns : List ℕ) (trims : List ℤ) → (turns_after v core turns ≡ turns) × (trims_after v core trims ≡ trims)
unfolding turns_after trims_after
none-given v h core turns trims = (cond_no (is_recipe v) _ turns h, cond_no (is_recipe v) _ trims h)

-- ---- a refusal tells a rule
first-told : {A : Type 0} (w : Result ⊤ Breach) (x : A) (f : Breach) → first_of w (Ok x) ≡ Err f → w ≡ Err f
unfolding first_of
first-told (Ok u) x f e = absurd (let z : ◌≡◌ {A = ℕ} 0 1 = cc in omega arith)
first-told (Err g) x f e = let z : g ≡ f = cc in ap (λ (b : Breach). Err b) z

read-tells : (v : List ℕ) (f : Breach) → spans_of v ≡ Err f → fault_of v ≡ Err f
unfolding spans_of
read-tells v f e = first-told (fault_of v) _ f e

write-tells : (g : Given) (f : Breach) → written_of g ≡ Err f → given_fault g ≡ Err f
unfolding written_of
write-tells g f e = first-told (given_fault g) _ f e

pub claims : Claims
claims = record {
  reading-after-writing = λ f h. written_read f (writable f h);
  writing-after-reading = writing-after-reading;
  read-recipe = read-recipe;
  in_place = spans-fields;
  written = λ g h. writable-given g.format g.note g.wrap_turns g.wrap_trims g.core_turns g.core_trims g.sequence h;
  refused_none = refused_none;
  same-setpoints = same-setpoints;
  none-given = none-given;
  read-tells = read-tells;
  write-tells = write-tells;
  shows_nothing = shows_nothing;
  rank = rank;
}
