use native.Mathlib.Omega.{arith}
use Prim.Native.Nat.{◌-◌, ◌≤◌}
use Rattle.contact_order.proofs.Closing.{Closing, closing, closing-in, closing-on, closing-length, closed}
use Rattle.contact_order.proofs.close_up.Goals as goal

pub loop-i-init : goal.loop-i-init
loop-i-init c = (omega arith, closing c.args.table.now c.args.ours.now c.args.b c.args.m)

pub lower-requires : goal.lower-requires
lower-requires c = (closing-in c.args.table.now c.args.ours.now c.args.b c.args.m _ _ c.loop-i.invariant.1 _ c.slots-n.ensures c.loop-i-test.true, c.sieve_of-sieve.ensures)

pub loop-i-preserved : goal.loop-i-preserved
loop-i-preserved c = (omega arith, closing-on c.args.table.now c.args.ours.now c.args.b c.args.m _ _ c.loop-i.invariant.1 _ _ c.slots-n.ensures c.loop-i-test.true c.lower.ensures)

pub shape_of-table : goal.shape_of-table
shape_of-table c = closing-length c.args.table.now c.args.ours.now c.args.b c.args.m _ _ c.loop-i.invariant.1

pub returns : goal.returns
returns c = closed c.args.table.now c.args.ours.now c.args.b c.args.m _ _ c.loop-i.invariant.1 _ c.slots-n.ensures c.loop-i.invariant.0 c.loop-i-test.false
