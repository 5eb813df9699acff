-- What is told of a step of a lookup is what the step answered. Assumes nothing.
use Prim.Native.Nat.{ℕ}
use mathlib.Core.Path.{◌≡◌, sym, ap, ◌∙◌}
use mathlib.Core.Bool.{Bool, true, false}
use mathlib.Core.List.{List, [], ◌∷◌, ◌++◌}
use lib.Seq.{sets}
use Rattle.octets.proofs.Bools.{cond_yes, cond_no}
use Rattle.octets.proofs.Stores.{sets-append}
use Rattle.lookup_in_place.specs.declared.Outcome.{Outcome}
use Rattle.lookup_in_place.specs.InPlace.{is_refused}
use Rattle.host_steps.specs.Steps.{step_first, outcome_numbers}

module _ (o : Outcome) (b : Bool) (e : b ≡ is_refused o.answer) where
  pub outcome-written : b ≡ false → (out one two : List ℕ) (n : ℕ) → n ≡ step_first o.answer → one ≡ sets out 0 (n ∷ o.found.n ∷ [])
      → two ≡ sets one 2 o.found.at → two ≡ outcome_numbers out o
  outcome-written left out one two n f h k =
      k ∙ ap (λ (x : List ℕ). sets x 2 o.found.at) (h ∙ ap (λ (x : ℕ). sets out 0 (x ∷ o.found.n ∷ [])) f)
      ∙ sym (sets-append out 0 (step_first o.answer ∷ o.found.n ∷ []) o.found.at)
      ∙ sym (cond_no (is_refused o.answer) out (sets out 0 ((step_first o.answer ∷ o.found.n ∷ []) ++ o.found.at)) (sym e ∙ left))

  pub outcome-silent : b ≡ true → (out : List ℕ) → out ≡ outcome_numbers out o
  outcome-silent taken out =
      sym (cond_yes (is_refused o.answer) out (sets out 0 ((step_first o.answer ∷ o.found.n ∷ []) ++ o.found.at)) (sym e ∙ taken))
