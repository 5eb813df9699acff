use Prim.Native.Nat.{◌-◌}
use native.Mathlib.Omega.{arith}
use lib.ListN.{length}
use borrow.Author.Rules.{rules}
use Rattle.octets.specs.Octets.{part}
use Rattle.wire_put.proofs.Putting.{put-length}
use Rattle.writer.proofs.Entries.{peer-five}
use Rattle.writer.proofs.Counting.{Putting, putting, put-end, put_next}
use Rattle.writer.proofs.put_list.Goals as goal

pub loop-rest-init : goal.loop-rest-init
loop-rest-init c = putting _ _ _ _

pub slice_bounds-rest-count : goal.slice_bounds-rest-count
slice_bounds-rest-count c = omega (arith, c.loop-rest.invariant.within)

pub slice_bounds-rest-start : goal.slice_bounds-rest-start
slice_bounds-rest-start c = omega (arith, c.loop-rest.invariant.within)

pub shape_of-buf-then-rest-size : goal.shape_of-buf-then-rest-size
shape_of-buf-then-rest-size c = put-length _ _ _ _ _ c.loop-rest.invariant.put

pub returns-then-rest-size : goal.returns-then-rest-size
returns-then-rest-size c = put-end _ _ _ _ _ _ _ c.loop-rest.invariant _ c.entry_size-size.ensures.0 (omega arith)

pub put_entry-to-requires : goal.put_entry-to-requires
put_entry-to-requires c = omega (arith, c.entry_size-size.ensures.0, c.if-rest-size.false)

pub overflow_add-at : goal.overflow_add-at
overflow_add-at c = omega (arith, c.loop-rest.invariant.within)

pub loop-rest-smaller : goal.loop-rest-smaller
loop-rest-smaller c = omega (arith, c.loop-rest.invariant.within, c.entry_size-size.ensures.0, peer-five (part c.args.s.now c.loop-rest.at (length c.args.s.now)))

pub loop-rest-preserved : goal.loop-rest-preserved
loop-rest-preserved c = put_next _ _ _ _ _ _ _ c.loop-rest.invariant _ c.entry_size-size.ensures.0 (omega arith) _ _ c.put_entry-to.ensures
