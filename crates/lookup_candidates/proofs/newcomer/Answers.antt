-- `newcomer`: hashed and copied. Assumes nothing.
use mathlib.Core.Path.{refl}
use borrow.Author.Rules.{rules}
use Rattle.lookup_candidates.proofs.Candidates.{fresh-is}
use Rattle.lookup_candidates.proofs.newcomer.Goals as goal

pub returns : goal.returns
returns c = fresh-is _ _ _ _ c.copy.ensures c.hash-place.ensures refl
