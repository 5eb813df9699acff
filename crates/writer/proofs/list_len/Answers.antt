use Prim.Native.Nat.{◌-◌}
use native.Mathlib.Omega.{arith}
use lib.ListN.{length}
use borrow.Author.Rules.{rules}
use Rattle.octets.specs.Octets.{part}
use Rattle.writer.proofs.Entries.{peer-five}
use Rattle.writer.proofs.Counting.{Summing, summing, sum-end, sum-unfit, sum_over, sum-on}
use Rattle.writer.proofs.list_len.Goals as goal

pub loop-rest-init : goal.loop-rest-init
loop-rest-init c = summing _ _

pub slice_bounds-rest-count : goal.slice_bounds-rest-count
slice_bounds-rest-count c = omega (arith, c.loop-rest.invariant.within)

pub slice_bounds-rest-start : goal.slice_bounds-rest-start
slice_bounds-rest-start c = omega (arith, c.loop-rest.invariant.within)

pub returns-then-rest-size : goal.returns-then-rest-size
returns-then-rest-size c = sum-end _ _ _ _ c.loop-rest.invariant _ c.entry_size-size.ensures.0 (omega arith)

pub entry_len-n-requires : goal.entry_len-n-requires
entry_len-n-requires c = omega (arith, c.entry_size-size.ensures.0, c.if-rest-size.false)

pub returns-then-n-eq0 : goal.returns-then-n-eq0
returns-then-n-eq0 c = sum-unfit _ _ _ _ c.loop-rest.invariant _ c.entry_size-size.ensures.0 (omega arith) _ c.entry_len-n.ensures c.if-n-eq0.true

pub overflow_sub-sum : goal.overflow_sub-sum
overflow_sub-sum c = omega (arith, c.loop-rest.invariant.few)

pub returns-then-sum-n : goal.returns-then-sum-n
returns-then-sum-n c = sum_over _ _ _ _ c.loop-rest.invariant _ c.entry_size-size.ensures.0 (omega arith) _ c.entry_len-n.ensures c.if-n-eq0.false c.if-sum-n.true

pub overflow_add-sum : goal.overflow_add-sum
overflow_add-sum c = omega (arith, c.loop-rest.invariant.few)

pub overflow_add-at : goal.overflow_add-at
overflow_add-at c = omega (arith, c.loop-rest.invariant.within)

pub loop-rest-smaller : goal.loop-rest-smaller
loop-rest-smaller c = omega (arith, c.loop-rest.invariant.within, c.entry_size-size.ensures.0, peer-five (part c.args.s.now c.loop-rest.at (length c.args.s.now)))

pub loop-rest-preserved : goal.loop-rest-preserved
loop-rest-preserved c = sum-on _ _ _ _ c.loop-rest.invariant _ c.entry_size-size.ensures.0 (omega arith) _ c.entry_len-n.ensures c.if-n-eq0.false (omega arith)
