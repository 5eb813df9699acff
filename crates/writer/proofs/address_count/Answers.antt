use mathlib.Core.Path.{◌≡◌}
use native.Mathlib.Omega.{arith}
use Rattle.writer.proofs.Entries.{counted_start, counted-on, counted-end, counted-full}
use Rattle.writer.proofs.address_count.Goals as goal

pub loop-n-init : goal.loop-n-init
loop-n-init c = counted_start _

pub slice_bounds-rest-count : goal.slice_bounds-rest-count
slice_bounds-rest-count c = omega (arith, c.loop-n.invariant.within)

pub slice_bounds-rest-start : goal.slice_bounds-rest-start
slice_bounds-rest-start c = omega (arith, c.loop-n.invariant.within)

pub returns-then-rest-size : goal.returns-then-rest-size
returns-then-rest-size c = counted-end _ _ _ c.loop-n.invariant c.loop-n-test.true _ c.address_size-size.ensures.0 (omega arith)

pub overflow_add-at : goal.overflow_add-at
overflow_add-at c = omega (arith, c.loop-n.invariant.within)

pub loop-n-preserved : goal.loop-n-preserved
loop-n-preserved c = counted-on _ _ _ c.loop-n.invariant c.loop-n-test.true _ c.address_size-size.ensures.0 (omega arith)

pub returns : goal.returns
returns c =
    let e : c.loop-n.n ≡ 5 = omega arith in
    rw e at (counted-full _ _ _ c.loop-n.invariant (omega arith))
