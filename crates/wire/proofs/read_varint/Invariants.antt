-- `read_varint`: the loop's invariant is `Going`, and each need is a law of it.
use Prim.Native.Nat.{◌-◌}
use borrow.Author.Rules.{rules}
use native.Mathlib.Omega.{arith}
use mathlib.Core.Path.{◌∙◌}
use Rattle.wire.proofs.Varints.{Going, going_start, going-past, going-stop, going_more, going-last, digit-fits, place-fits, acc-fits}
use Rattle.wire.proofs.read_varint.Given as goal

abbrev pub invariant-loop-left : goal.invariant-loop-left
invariant-loop-left l = Going l.s l.at l.acc l.place l.i l.left

abbrev pub decreases-loop-left : goal.decreases-loop-left
decreases-loop-left l = l.left
