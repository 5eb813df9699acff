-- A lookup, and what a step gives: the values that the definitions speak of. `flat_lookup` says which bytes stand for one.
use Rattle.std.specs.Prelude.{ℕ, Bool, List}
use Rattle.lookup_candidates.specs.declared.Candidate.{Candidate}
use Rattle.lookup_marks.specs.declared.Ranks.{Ranks}
use Rattle.lookup.specs.declared.Answer.{Answer}
use Rattle.std.specs.Prelude.{Result}
use Rattle.refusal.specs.declared.Refusal.{Refusal}

-- its candidates nearest first, the first `count` of an array of 256; the key with its size and place; how many may be in flight; and whether someone
-- was turned away
pub record Lookup : Type 0 where
  pub candidates : List Candidate
  pub key : List ℕ
  pub target : List ℕ
  pub count : ℕ
  pub size : ℕ
  pub limit : ℕ
  pub turned : Bool

-- the lookup to go on with, the ranks of the nearest that answered, where it is over, and the answer
pub record Step : Type 0 where
  pub lookup : Lookup
  pub found : Ranks
  pub answer : Result Answer Refusal
