-- `put_list` writes setpoint after setpoint.
use Rattle.recipe_fields.proofs.Steps.{Listing}
use Rattle.recipe_fields.proofs.put_list.Given as goal

abbrev pub invariant-loop-i : goal.invariant-loop-i
invariant-loop-i l = Listing l.initial.buf l.at l.turns l.trims l.buf l.next l.i
