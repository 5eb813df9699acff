-- `rises` goes by whether there is a setpoint before.
use mathlib.Core.Path.{refl}
use Rattle.recipe.specs.Faults.{rises}
use Rattle.recipe.proofs.rises.Goals as goal

pub returns-in-None : goal.returns-in-None
unfolding rises
returns-in-None c = let e = c.in-None.is in rw e refl

pub returns-in-Some : goal.returns-in-Some
unfolding rises
returns-in-Some c = let e = c.in-Some.is in rw e refl
