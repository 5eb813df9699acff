use mathlib.Core.Path.{◌≡◌, sym, ◌∙◌}
use Prim.Native.Nat.{◌-◌}
use native.Mathlib.Omega.{arith}
use lib.ListN.{length, length-map}
use Rattle.peer.proofs.Lists.{size-most}
use Rattle.peer.proofs.Tidy.{Kept, kept-none, kept-most, rooms_same, sizes-four, sizes-same, kept-all, kept-skip, kept_more}
use borrow.Author.Rules.{rules}
use borrow.Author.Tests.{not-true, not-false}
use Rattle.peer.proofs.keep_usable.Goals as goal
use Rattle.peer.proofs.keep_usable.Goals.{Start, then-usable_size, else-usable_size}

-- the rooms have 512 bytes, and there are four lengths
rooms-long : (c : Start) → length c.args.p.addrs ≡ 512
rooms-long c = omega arith

lens-long : (c : Start) → length c.args.p.lens ≡ 4
lens-long c = omega arith

pub loop-k-init : goal.loop-k-init
loop-k-init c = kept-none c.args.p c.args.addrs.now c.args.lens.now c.requires.0 c.requires.1

pub overflow_mul-count : goal.overflow_mul-count
overflow_mul-count c = omega (arith, kept-most _ _ _ _ _ c.loop-k.invariant, c.cut_count-all.ensures, c.loop-k-test.true)

pub slice_bounds-copy-end : goal.slice_bounds-copy-end
slice_bounds-copy-end c = omega (arith, c.cut_count-all.ensures, c.loop-k-test.true, rooms-long (goal.at.slice_bounds-copy-end c).Start, size-most _ (sym c.usable_size.ensures ∙ c.if-usable_size.true))

pub bounds-lens-count : goal.bounds-lens-count
bounds-lens-count c = omega (arith, sizes-four _ _ _ _ _ c.loop-k.invariant, kept-most _ _ _ _ _ c.loop-k.invariant, c.cut_count-all.ensures, c.loop-k-test.true)

pub overflow_add-count : goal.overflow_add-count
overflow_add-count c = omega (arith, kept-most _ _ _ _ _ c.loop-k.invariant, c.cut_count-all.ensures, c.loop-k-test.true)

pub loop-k-preserved : goal.loop-k-preserved
loop-k-preserved c =
    elim c.if-usable_size.branch [
      | then-usable_size w ↦ rw (w.addrs-is, w.lens-is, w.count-is) (kept_more _ _ _ _ _ c.loop-k.invariant _ c.cut_count-all.ensures c.loop-k-test.true (rooms-long (goal.at.loop-k-preserved c).Start) (sym c.usable_size.ensures ∙ w.if-usable_size.true) _ w.copy.ensures)
      | else-usable_size w ↦ rw (w.addrs-is, w.lens-is, w.count-is) (kept-skip _ _ _ _ _ c.loop-k.invariant _ c.cut_count-all.ensures c.loop-k-test.true (sym c.usable_size.ensures ∙ w.if-usable_size.false))
    ]

pub overflow_cast-result : goal.overflow_cast-result
overflow_cast-result c = omega (arith, kept-most _ _ _ _ _ c.loop-k.invariant, c.cut_count-all.ensures, c.loop-k.invariant.within)

pub returns : goal.returns
returns c = kept-all _ _ _ _ _ c.loop-k.invariant _ c.cut_count-all.ensures c.loop-k-test.false
