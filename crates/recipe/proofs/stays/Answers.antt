-- `stays` goes by whether there is a setpoint before.
use mathlib.Core.Path.{refl}
use mir.Syntax.{w32}
use mir.Val.{SFits}
use borrow.Author.Rules.{rules}
use Rattle.recipe.specs.Faults.{stays}
use Rattle.recipe.proofs.Leap.{leap-back}
use Rattle.recipe.proofs.stays.Goals as goal

pub returns-in-None : goal.returns-in-None
unfolding stays
returns-in-None c = let e = c.in-None.is in rw e refl

pub returns-in-Some : goal.returns-in-Some
unfolding stays
returns-in-Some c =
    let f : SFits w32 c.in-Some.last.trim = search rules in
    let e = c.in-Some.is in
    rw e (leap-back c.in-Some.last.trim c.args.trim f c.ranges.trim c.no_leap.ensures)
