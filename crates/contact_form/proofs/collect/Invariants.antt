-- `collect` goes on while the slots that it has passed have an index.
use Rattle.contact_form.specs.Inner.{Indexed}
use Rattle.contact_form.proofs.collect.Given as goal

abbrev pub invariant-loop-i : goal.invariant-loop-i
invariant-loop-i l = Indexed l.table l.ours l.i l.at
