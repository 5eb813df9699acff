-- `bytes_fault` reads setpoint by setpoint: what is left of the bytes is judged after the setpoint before it.
use Rattle.recipe.proofs.Faults.{Left}
use Rattle.recipe.proofs.bytes_fault.Given as goal

abbrev pub invariant-loop-i : goal.invariant-loop-i
invariant-loop-i l = Left l.part l.s l.count l.prev l.at l.i
