-- What a put takes is found whole, and a box of other bounds refuses what is outside them. Assumes nothing.
use Prim.Native.Nat.{ℕ}
use mathlib.Core.Path.{◌≡◌, refl, sym, ap, ◌∙◌}
use mathlib.Core.Logic.{⊎_elim}
use mathlib.Core.Bool.{true, false}
use mathlib.Core.List.{List}
use native.Mathlib.Omega.{arith}
use Rattle.octets.proofs.Bools.{either, to-false, not-both}
use Rattle.recipe.specs.Recipe.{Bounds, recipe_within}
use Rattle.recipe.proofs.Trailer.{Recipe, recipe-is, is-recipe}
use Rattle.recipe.proofs.Bounded.{one-alone}
use Rattle.records.specs.Store.{slot_bytes, header, in_form, answer_of, after_of, put_answer, put_after}
use Rattle.records_history.specs.History.{got, taken, accepts, offered}
use Rattle.records_history.specs.Claims.{LengthInSlot, TakenWhole, Outside, RefusedBefore}
use Rattle.records_history.proofs.Stays.{put-form, step-taken}
use Rattle.records_history.proofs.Holding.{held-is-found, put-told}
use Rattle.std.specs.Prelude.{Ok, Some}

-- ---- laid out
pub length-in-slot : LengthInSlot
unfolding slot_bytes header
length-in-slot k v = (refl, refl)

-- ---- found whole
pub taken-form : (t k v : List ℕ) → put_answer t k v ≡ Ok tt → in_form t ≡ true
taken-form t k v e =
    ⊎_elim (λ b. b) (λ b. absurd (let q = sym (put-told.out_of_form t k v b) ∙ e in let z : ◌≡◌ {A = ℕ} 0 1 = cc in omega arith)) (either (in_form t))

pub taken-got : (t k v : List ℕ) → put_answer t k v ≡ Ok tt → got (put_after t k v) k ≡ Some v
unfolding taken accepts offered
taken-got t k v e = step-taken k t (record { key = k; value = v }) refl (ap taken e)

pub taken-whole : TakenWhole
taken-whole t k v e = held-is-found.found (put_after t k v) k v (put-form t k v (taken-form t k v e)) (taken-got t k v e)

-- ---- refused before
outside : (b : Bounds) (v : List ℕ) → Outside b v → recipe_within b v ≡ false
outside b v h = to-false (recipe_within b v) (λ r. broken (recipe-is b v r) h)
  where
    broken : Recipe b v → Outside b v → ⊥
    broken g o =
        ⊎_elim (λ l. omega (arith, l, g.most))
        (⊎_elim (λ l. omega (arith, l, g.wrap.few))
        (⊎_elim (λ l. omega (arith, l, g.core.few)) (λ l. not-both (recipe_within b v) (is-recipe b v g) (one-alone b v l.0 l.1)))) o

pub refused-before : RefusedBefore
unfolding answer_of after_of
refused-before b t k v store e h = rw (e, outside b v h) (refl, refl)
