-- `closer_ids`: the entries found so far, and the rest of the walk.
use Rattle.message.proofs.Hearing.{Walking}
use Rattle.message.proofs.closer_ids.Given as goal

abbrev pub invariant-loop-n : goal.invariant-loop-n
invariant-loop-n l = Walking l.body l.starts l.ends l.n l.from
