-- `no_leap` tests the difference against both ends.
use native.Mathlib.Omega.{arith}
use Rattle.recipe.proofs.Leap.{leap-cast, leap-sub, leap-below, leap-above}
use Rattle.recipe.proofs.no_leap.Goals as goal

pub overflow_cast-d : goal.overflow_cast-d
overflow_cast-d c = leap-cast c.args.a c.ranges.a

pub overflow_cast-d-2 : goal.overflow_cast-d-2
overflow_cast-d-2 c = leap-cast c.args.b c.ranges.b

pub overflow_sub-d : goal.overflow_sub-d
overflow_sub-d c = leap-sub c.args.a c.args.b c.ranges.a c.ranges.b

pub overflow_sub-t-4 : goal.overflow_sub-t-4
overflow_sub-t-4 c = record { sfits = omega arith }

pub returns-then-d : goal.returns-then-d
returns-then-d c = leap-below c.args.a c.args.b c.ranges.a c.ranges.b c.if-d.true

pub returns : goal.returns
returns c = leap-above c.args.a c.args.b c.ranges.a c.ranges.b c.if-d.false
