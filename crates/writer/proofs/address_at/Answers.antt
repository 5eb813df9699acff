use Prim.Native.Nat.{◌-◌}
use native.Mathlib.Omega.{arith}
use borrow.Author.Rules.{rules}
use Rattle.writer.proofs.Entries.{Seeking, seeking, seek-on, seek-end, seek_found}
use Rattle.writer.proofs.address_at.Goals as goal

pub loop-i-init : goal.loop-i-init
loop-i-init c = seeking _ _

pub slice_bounds-rest-count : goal.slice_bounds-rest-count
slice_bounds-rest-count c = omega (arith, c.loop-i.invariant.within)

pub slice_bounds-rest-start : goal.slice_bounds-rest-start
slice_bounds-rest-start c = omega (arith, c.loop-i.invariant.within)

pub returns-then-rest-size : goal.returns-then-rest-size
returns-then-rest-size c = seek-end _ _ _ _ c.loop-i.invariant _ c.address_size-size.ensures.0 (omega arith)

pub overflow_add-at : goal.overflow_add-at
overflow_add-at c = omega (arith, c.loop-i.invariant.within)

pub loop-i-preserved : goal.loop-i-preserved
loop-i-preserved c = seek-on _ _ _ _ c.loop-i.invariant c.loop-i-test.true _ c.address_size-size.ensures.0 (omega arith)

pub slice_bounds-first_address-count : goal.slice_bounds-first_address-count
slice_bounds-first_address-count c = omega (arith, c.loop-i.invariant.within)

pub slice_bounds-first_address-start : goal.slice_bounds-first_address-start
slice_bounds-first_address-start c = omega (arith, c.loop-i.invariant.within)

pub returns : goal.returns
returns c = seek_found _ _ _ _ c.loop-i.invariant (omega arith) _ c.first_address.ensures
