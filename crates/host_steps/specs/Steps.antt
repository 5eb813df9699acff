-- What a step of a lookup answered: the number that it returns, and the numbers that go to out.
use Rattle.std.specs.Prelude.{ℕ, cond, List, [], ◌∷◌, ◌++◌}
use Rattle.std.proofs.lemmas.List.Edits.{sets}
use Rattle.refusal.specs.Refusal.{number_of}
use Rattle.lookup.specs.declared.Answer as lookup
use Rattle.lookup.specs.declared.Answer.TheVariants as step
use Rattle.lookup.specs.Value.{Step}
use Rattle.lookup_in_place.specs.declared.Outcome.{Outcome}
use Rattle.lookup_in_place.specs.InPlace.{outcome_of, is_refused}
use Rattle.std.specs.Prelude.{Ok, Err, Result}
use Rattle.refusal.specs.declared.Refusal.{Refusal}

-- ---- lookups
-- 64 going, 65 wait, 66 ask, 67 complete, 68 cut short
abbrev pub step_number : Result lookup.Answer Refusal → ℕ
step_number (Err r) = number_of r
step_number (Ok (step.Complete n)) = 67
step_number (Ok (step.CutShort n)) = 68
step_number (Ok step.Wait) = 65
step_number (Ok (step.Ask i)) = 66
step_number (Ok step.Going) = 64

-- the rank to ask, or the requests sent
abbrev pub step_first : Result lookup.Answer Refusal → ℕ
step_first (Err r) = 0
step_first (Ok (step.Complete n)) = n
step_first (Ok (step.CutShort n)) = n
step_first (Ok step.Wait) = 0
step_first (Ok (step.Ask i)) = i
step_first (Ok step.Going) = 0

-- that number, how many were found, and their twenty ranks; nothing where the step was refused
abbrev pub outcome_numbers : List ℕ → Outcome → List ℕ
outcome_numbers out o = cond (is_refused o.answer) out (sets out 0 ((step_first o.answer ∷ o.found.n ∷ []) ++ o.found.at))

abbrev pub step_numbers : List ℕ → Step → List ℕ
step_numbers out s = outcome_numbers out (outcome_of s)
