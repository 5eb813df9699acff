-- The claims of specs/Claims.antt. Assumes nothing.
use Prim.Native.Nat.{ℕ}
use mathlib.Core.Path.{◌≡◌, refl}
use mathlib.Core.Bool.{Bool, true, false, not}
use mathlib.Core.List.{List}
use Rattle.octets.proofs.Bools.{to-false, to-true}
use Rattle.recipe.specs.Recipe.{outranks}
use Rattle.recipe.specs.Claims.{Claims}
use Rattle.recipe.proofs.Neighbours.{by-neighbours, leaps-are-refused}
use Rattle.recipe.proofs.Bounded.{counted, longest-recipes, in-numbers, bounds-alone, one-alone}
use Rattle.recipe.proofs.Faults.{fault-or-recipe}
use Rattle.recipe.proofs.Named.{of-setpoints, in_bytes}
use Rattle.recipe.proofs.Rank.{outranks-asym, outranks-trans, outranks-total, outranks-self}
use Rattle.recipe.proofs.Zigzag.{trim-zigzag, zigzag-trim}

rank-total : (a b : List ℕ) → (a ≡ b → ⊥) → outranks a b ≡ not (outranks b a)
rank-total a b h = go (outranks b a) refl
  where
    go : (x : Bool) → outranks b a ≡ x → outranks a b ≡ not x
    go true e = to-false (outranks a b) (λ q. outranks-asym a b q e)
    go false e = to-true (outranks a b) (λ q. h (outranks-total a b q e))

pub claims : Claims
claims = record {
  by-neighbours = by-neighbours;
  leaps-are-refused = leaps-are-refused;
  counted = counted;
  longest-recipes = longest-recipes;
  in-numbers = in-numbers;
  bounds-alone = bounds-alone;
  one-alone = one-alone;
  none-is-broken = fault-or-recipe;
  of-setpoints = of-setpoints;
  in_bytes = in_bytes;
  rank-total = rank-total;
  rank-self = outranks-self;
  rank-trans = outranks-trans;
  trim-zigzag = trim-zigzag;
  zigzag-trim = zigzag-trim;
}
