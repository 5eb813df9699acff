-- Where the fields stand. Assumes nothing.
use Prim.Native.Nat.{ℕ, ◌-◌, ◌≤◌}
use mathlib.Core.Path.{◌≡◌, refl, sym, ap, ◌∙◌}
use mathlib.Core.List.{List}
use mathlib.Core.Bool.{cond}
use native.Mathlib.Omega.{arith}
use lib.ListN.{length}
use Rattle.std.specs.Prelude.{Result, Ok, Err, ⊤, is_ok}
use Rattle.recipe.specs.Recipe.{distance_of, count_of, format_of, sequence_of, trailer_of, core_distance_of, core_count_of, wrap_room, core_room, ours, recipe_within, is_recipe}
use Rattle.recipe.specs.Faults.{first_of, fault_of}
use Rattle.recipe.specs.declared.Breach.{Breach}
use Rattle.recipe.proofs.Trailer.{Recipe as Facts, our-recipe}
use Rattle.recipe.proofs.Faults.{goes_on, handed-up, fault-or-recipe}
use Rattle.recipe_fields.specs.Fields.{Holds, NoRecipe, fields, fields_within, fields_of}
use Rattle.recipe_fields.specs.Places.{spans_of, fields_at}
use Rattle.recipe_fields.specs.declared.Spans.{Spans}

abbrev spans_in : List ℕ → Spans
spans_in v =
    record {
      format = format_of v;
      core = length v - core_distance_of v;
      wrap = length v - distance_of v;
      trailer = length v - trailer_of (format_of v);
      cores = core_count_of v;
      wraps = count_of v;
      sequence = sequence_of v;
    }

-- the fields at the spans are the fields
pub spans-fields : (v : List ℕ) → fields_at v (spans_of v) ≡ fields_of v
unfolding spans_of fields_at fields_within fields wrap_room core_room is_recipe first_of
spans-fields v = go (fault_of v) (sym (fault-or-recipe v))
  where
    here : length v - length v ≡ 0
    here = omega arith

    go : (w : Result ⊤ Breach) → recipe_within ours v ≡ is_ok w → fields_at v (first_of w (Ok (spans_in v))) ≡ cond (recipe_within ours v) (Holds (fields v)) NoRecipe
    go (Ok u) e = rw (e, here) refl
    go (Err f) e = rw e refl

-- ---- places that the code works out in a recipe
module _ (v : List ℕ) (r : Facts ours v) where
  pub core-in : {d : ℕ} → d ≡ core_distance_of v → d ≤ length v
  core-in q = rw q r.core.far

  pub wrap-in : {d : ℕ} → d ≡ distance_of v → d ≤ length v
  wrap-in q = rw q r.wrap.far

  pub trailer-in : {d f : ℕ} → d ≡ trailer_of f → f ≡ format_of v → d ≤ length v
  trailer-in {d} {f} q p = let e : d ≡ trailer_of (format_of v) = q ∙ ap trailer_of p in omega (arith, e, r.wrap.near, r.wrap.far)

-- ---- `read`
module _ (v : List ℕ) {w : Result ⊤ Breach} (q : w ≡ fault_of v) where
  pub read-not : {r : Result Spans Breach} {y f : Breach} → r ≡ Err y → y ≡ f → w ≡ Err f → r ≡ spans_of v
  unfolding spans_of
  read-not a b e = handed-up (Ok (spans_in v)) a b e ∙ ap (λ (x : Result ⊤ Breach). first_of x (Ok (spans_in v))) q

  module _ {o : ⊤} (z : w ≡ Ok o) where
    pub read-good : Facts ours v
    read-good = our-recipe v (sym (fault-or-recipe v) ∙ ap is_ok (sym q ∙ z))

    pub read_all : {f c d t m n s : ℕ} → f ≡ format_of v → c ≡ core_distance_of v → d ≡ distance_of v → t ≡ trailer_of f → m ≡ core_count_of v → n ≡ count_of v → s ≡ sequence_of v
        → Ok (record { format = f; core = length v - c; wrap = length v - d; trailer = length v - t; cores = m; wraps = n; sequence = s }) ≡ spans_of v
    unfolding spans_of
    read_all ef ec ed et em en es = rw (et, ef, ec, ed, em, en, es) (sym (goes_on (fault_of v) (Ok (spans_in v)) (ap is_ok (sym q ∙ z))))
