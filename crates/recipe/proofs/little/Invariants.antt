-- `little` reads from the last byte on: `n` is the number of the bytes so far.
use Rattle.recipe.proofs.Trailer.{Little}
use Rattle.recipe.proofs.little.Given as goal

abbrev pub invariant-loop-b : goal.invariant-loop-b
invariant-loop-b l = Little l.s l.b-iterator.iter.rest.now l.n
