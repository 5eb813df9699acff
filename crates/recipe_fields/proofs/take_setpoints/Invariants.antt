-- `take_setpoints` takes setpoint after setpoint: what is still to be taken goes to the places after.
use Rattle.recipe_fields.proofs.Taken.{Taking}
use Rattle.recipe_fields.proofs.take_setpoints.Given as goal

abbrev pub invariant-loop-i : goal.invariant-loop-i
invariant-loop-i l = Taking l.s l.count l.initial.turns l.initial.trims l.turns l.trims l.at l.i
