-- `insert` moves those from the place on, the last first.
use Rattle.keyed_slots.proofs.Ordering.{Moving}
use Rattle.keyed_slots.proofs.insert.Given as goal

abbrev pub invariant-loop-m : goal.invariant-loop-m
invariant-loop-m l = Moving l.initial.order l.held l.p l.order l.m
