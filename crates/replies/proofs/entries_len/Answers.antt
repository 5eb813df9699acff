use Prim.Native.Nat.{◌-◌}
use native.Mathlib.Omega.{arith}
use Rattle.replies.proofs.Runs.{Summing, sum-none, sum_one, sum-all}
use borrow.Author.Rules.{rules}
use Rattle.replies.proofs.entries_len.Goals as goal

pub loop-k-init : goal.loop-k-init
loop-k-init c = sum-none _ _ _

pub offset_bounds-near-k : goal.offset_bounds-near-k
offset_bounds-near-k c = omega (arith, c.loop-k-test.true, c.requires.0)

pub bounds-near-k : goal.bounds-near-k
bounds-near-k c = omega (arith, c.loop-k-test.true, c.requires.1)

pub overflow_add-sum : goal.overflow_add-sum
overflow_add-sum c = omega (arith, c.contact_len-sum.ensures.1, c.loop-k.invariant.few, c.loop-k-test.true, c.requires.0)

pub loop-k-smaller : goal.loop-k-smaller
loop-k-smaller c = omega (arith, c.loop-k-test.true)

pub loop-k-preserved : goal.loop-k-preserved
loop-k-preserved c = sum_one _ _ _ _ _ _ c.loop-k.invariant c.loop-k-test.true c.requires.1 c.contact_len-sum.ensures

pub returns : goal.returns
returns c = sum-all _ _ _ _ _ c.loop-k.invariant c.loop-k-test.false c.requires.0
