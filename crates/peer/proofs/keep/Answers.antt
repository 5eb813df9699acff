use mathlib.Core.Path.{refl, sym, ◌∙◌}
use Prim.Native.Nat.{◌-◌}
use native.Mathlib.Omega.{arith}
use lib.ListN.{length}
use Rattle.peer.proofs.Lists.{Scan, start, addrs-same, lens_same, lens-four, finish-full, finish-short, here, skip, take-one, size-most}
use borrow.Author.Tests.{not-true, not-false}
use Rattle.peer.proofs.keep.Goals as goal

pub loop-count-init : goal.loop-count-init
loop-count-init c = start c.args.list.now c.args.addrs.now c.args.lens.now c.requires.0 c.requires.1

pub returns-then-end-eq0 : goal.returns-then-end-eq0
returns-then-end-eq0 c = finish-short _ _ _ _ _ c.loop-count.invariant _ c.entry_end-end.ensures c.if-end-eq0.true

pub overflow_sub-n : goal.overflow_sub-n
overflow_sub-n c = omega (arith, (here _ _ _ _ _ c.loop-count.invariant _ c.entry_end-end.ensures c.if-end-eq0.false).ends)

pub loop-count-smaller : goal.loop-count-smaller
loop-count-smaller c = omega (arith, (here _ _ _ _ _ c.loop-count.invariant _ c.entry_end-end.ensures c.if-end-eq0.false).ends, (here _ _ _ _ _ c.loop-count.invariant _ c.entry_end-end.ensures c.if-end-eq0.false).inside)

pub loop-count-preserved : goal.loop-count-preserved
loop-count-preserved c = skip _ _ _ _ _ c.loop-count.invariant _ c.entry_end-end.ensures c.if-end-eq0.false _ refl (sym c.usable_size.ensures ∙ c.if-usable_size.false)

pub slice_bounds-copy-count : goal.slice_bounds-copy-count
slice_bounds-copy-count c = omega (arith, (here _ _ _ _ _ c.loop-count.invariant _ c.entry_end-end.ensures c.if-end-eq0.false).ends)

pub slice_bounds-copy-start : goal.slice_bounds-copy-start
slice_bounds-copy-start c = omega (arith, (here _ _ _ _ _ c.loop-count.invariant _ c.entry_end-end.ensures c.if-end-eq0.false).ends)

pub slice_bounds-copy-end : goal.slice_bounds-copy-end
slice_bounds-copy-end c = (here _ _ _ _ _ c.loop-count.invariant _ c.entry_end-end.ensures c.if-end-eq0.false).inside

pub overflow_cast-lens : goal.overflow_cast-lens
overflow_cast-lens c = omega (arith, size-most _ (sym c.usable_size.ensures ∙ c.if-usable_size.true))

pub loop-count-smaller-then-usable_size : goal.loop-count-smaller-then-usable_size
loop-count-smaller-then-usable_size c = omega (arith, (here _ _ _ _ _ c.loop-count.invariant _ c.entry_end-end.ensures c.if-end-eq0.false).ends, (here _ _ _ _ _ c.loop-count.invariant _ c.entry_end-end.ensures c.if-end-eq0.false).inside)

pub loop-count-preserved-then-usable_size : goal.loop-count-preserved-then-usable_size
loop-count-preserved-then-usable_size c = take-one _ _ _ _ _ c.loop-count.invariant _ c.entry_end-end.ensures c.if-end-eq0.false _ _ refl (sym c.usable_size.ensures ∙ c.if-usable_size.true) c.loop-count-test.true c.copy.ensures

pub returns : goal.returns
returns c = finish-full _ _ _ _ _ c.loop-count.invariant c.loop-count-test.false
