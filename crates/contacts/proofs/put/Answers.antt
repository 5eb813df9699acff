use native.Mathlib.Omega.{arith}
use borrow.Author.Rules.{rules}
use mathlib.Core.Path.{◌≡◌}
use mathlib.Core.List.{◌++◌, ◌∷◌}
use Prim.Native.Nat.{◌-◌, ◌≤◌}
use lib.ListN.{get_or, take, drop}
use Rattle.contacts.proofs.Shifts.{start-list, start-next, step-list, step-next, ends}
use Rattle.contacts.proofs.put.Goals as goal

pub loop-i-init : goal.loop-i-init
loop-i-init c = (search rules, search rules, start-list c.args.at.now c.args.p c.args.k (omega arith), start-next c.args.at.now c.args.p c.args.k (omega arith))

pub loop-i-preserved : goal.loop-i-preserved
loop-i-preserved c = let l = c.loop-i in (
  search rules,
  search rules,
  step-list c.args.at.now c.args.p c.args.k l.i l.at l.x (omega arith) (omega arith) l.invariant.2 l.invariant.3,
  step-next c.args.at.now c.args.p c.args.k l.i l.at (omega arith) (omega arith) l.invariant.0 l.invariant.2,
)

pub returns : goal.returns
returns c = ends c.args.at.now c.args.p c.args.k c.loop-i.i c.loop-i.at (omega arith) (omega arith) c.loop-i.invariant.2
