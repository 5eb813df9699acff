-- `address_count`: the addresses passed, and those that are left.
use Rattle.writer.proofs.Entries.{Counted}
use Rattle.writer.proofs.address_count.Given as goal

abbrev pub invariant-loop-n : goal.invariant-loop-n
invariant-loop-n l = Counted l.list l.n l.at
