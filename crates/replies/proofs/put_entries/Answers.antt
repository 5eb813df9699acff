use Prim.Native.Nat.{◌-◌}
use native.Mathlib.Omega.{arith}
use Rattle.wire_put.proofs.Putting.{put-length}
use Rattle.replies.proofs.Runs.{PuttingOn, putting-none, putting-one, putting-all}
use borrow.Author.Rules.{rules}
use Rattle.replies.proofs.put_entries.Goals as goal

pub loop-k-init : goal.loop-k-init
loop-k-init c = putting-none _ _ _ _ _

pub offset_bounds-near-k : goal.offset_bounds-near-k
offset_bounds-near-k c = omega (arith, c.loop-k-test.true, c.requires.0)

pub bounds-near-k : goal.bounds-near-k
bounds-near-k c = omega (arith, c.loop-k-test.true, c.requires.1)

pub loop-k-smaller : goal.loop-k-smaller
loop-k-smaller c = omega (arith, c.loop-k-test.true)

pub loop-k-preserved : goal.loop-k-preserved
loop-k-preserved c = putting-one _ _ _ _ _ _ _ _ _ _ c.loop-k.invariant c.loop-k-test.true c.requires.1 c.put_contact-to.ensures

pub shape_of-buf : goal.shape_of-buf
shape_of-buf c = put-length _ _ _ _ _ c.loop-k.invariant.done

pub returns : goal.returns
returns c = putting-all _ _ _ _ _ _ _ _ c.loop-k.invariant c.loop-k-test.false
