-- `points_fault` judges setpoint after setpoint: what is left of the list is judged after the one before it.
use Rattle.recipe_fields.proofs.Steps.{Judged}
use Rattle.recipe_fields.proofs.points_fault.Given as goal

abbrev pub invariant-loop-i : goal.invariant-loop-i
invariant-loop-i l = Judged l.part l.turns l.trims l.prev l.i
