-- The rules of a list by position. Assumes nothing.
use Prim.Native.Nat.{ℕ, suc, ◌-◌, ◌<◌}
use mathlib.Core.Path.{◌≡◌, refl, sym, ap, ap₂, ◌∙◌, subst}
use mathlib.Core.Logic.{⊎_elim}
use mathlib.Core.Bool.{Bool, true, ◌&&◌}
use mathlib.Core.List.{List, [], ◌∷◌}
use native.Mathlib.Omega.{arith}
use lib.ListN.{length}
use Rattle.std.specs.Prelude.{Some, None}
use Rattle.octets.specs.Search.{all}
use Rattle.octets.proofs.Bools.{and_r, and_assoc, and-swap, not-both, to-false}
use Rattle.octets.proofs.Searching.{all-at, all_first}
use Rattle.recipe.specs.Recipe.{Setpoints, These, setpoints, in_range, no_leap, follows, rules, ruled, is_list, wrap_room, core_room, ours, is_recipe}
use Rattle.recipe.specs.declared.Setpoint.{Setpoint}
use Rattle.recipe.specs.Claims.{keeps_limits, turn_rises, trim_stays, ByNeighbours, LeapsAreRefused}
use Rattle.recipe.proofs.Trailer.{Recipe, our-recipe}

abbrev steps : List Setpoint → ℕ → Bool
steps ps i = turn_rises ps i && trim_stays ps i

regroup : (i s l r : Bool) → (i && (s && (l && r))) ≡ ((i && l) && (s && r))
regroup i s l r = ap (λ (b : Bool). i && b) (and-swap s l r) ∙ and_assoc i l (s && r)

-- what comes after the setpoint p
rules-after : (p : Setpoint) (qs : List Setpoint) → rules (Some p) qs ≡ (all (length qs) (keeps_limits qs) && all (length qs) (steps (p ∷ qs)))
unfolding rules follows in_range no_leap all
rules-after p [] = refl
rules-after p (q ∷ qs) =
    ap (λ (r : Bool). in_range q.turn q.trim && (steps (p ∷ q ∷ qs) 0 && r)) (rules-after q qs)
    ∙ regroup (in_range q.turn q.trim) (steps (p ∷ q ∷ qs) 0) (all (length qs) (keeps_limits qs)) (all (length qs) (steps (q ∷ qs)))
    ∙ sym (ap₂ ◌&&◌ (all_first (keeps_limits (q ∷ qs)) (length qs)) (all_first (steps (p ∷ q ∷ qs)) (length qs)))

pub by-neighbours : ByNeighbours
unfolding rules follows in_range all
by-neighbours [] = refl
by-neighbours (q ∷ qs) =
    let e : suc (length qs) - 1 ≡ length qs = omega arith in
    ap (λ (r : Bool). in_range q.turn q.trim && r) (rules-after q qs)
    ∙ and_assoc (in_range q.turn q.trim) (all (length qs) (keeps_limits qs)) (all (length qs) (steps (q ∷ qs)))
    ∙ ap₂ ◌&&◌ (sym (all_first (keeps_limits (q ∷ qs)) (length qs))) (ap (λ (n : ℕ). all n (steps (q ∷ qs))) (sym e))

-- no list that keeps the rules leaps
kept-stays : (ps : List Setpoint) (i : ℕ) → suc i < length ps → rules None ps ≡ true → trim_stays ps i ≡ true
kept-stays ps i l h =
    and_r (turn_rises ps i) _ (all-at (steps ps) (length ps - 1) i (and_r (all (length ps) (keeps_limits ps)) _ (sym (by-neighbours ps) ∙ h)) (omega arith))

list-stays : (n : ℕ) (s : List ℕ) (ps : List Setpoint) (i : ℕ) → setpoints n s ≡ These ps → is_list n s ≡ true → suc i < length ps → trim_stays ps i ≡ true
unfolding is_list ruled
list-stays n s ps i e h l = kept-stays ps i l (subst (λ (x : Setpoints). ruled None x ≡ true) e h)

pub leaps-are-refused : LeapsAreRefused
unfolding wrap_room core_room
leaps-are-refused v ps i e l f = to-false (is_recipe v) (λ h. not-both (trim_stays ps i) (stays (our-recipe v h)) f)
  where
    stays : Recipe ours v → trim_stays ps i ≡ true
    stays g = ⊎_elim (λ q. list-stays _ _ ps i q g.wrap.list l) (λ q. list-stays _ _ ps i q g.core.list l) e
