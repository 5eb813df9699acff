use Rattle.lookup_in_place.proofs.Steps.{Hearing, hearing-none, hearing-one, hearing-long, hearing-room, hearing-all}
use Rattle.lookup.proofs.Hearing.{ids-within, cut-order, cut-end}
use borrow.Author.Rules.{rules}
use native.Mathlib.Omega.{arith}
use Prim.Native.Nat.{◌-◌}
use Rattle.lookup_in_place.proofs.hear_one.Reads as hear-one-reads
use Rattle.message.proofs.closer_ids.Reads as closer-ids-reads
use Rattle.lookup_in_place.proofs.hear_all.Goals as goal

pub loop-i-init : goal.loop-i-init
loop-i-init c = hearing-none _ _ _ _ c.requires.0 c.requires.1

pub offset_bounds-at-i : goal.offset_bounds-at-i
offset_bounds-at-i c = omega (arith, ids-within _ _ c.closer_ids-ids.ensures _ c.loop-i-test.true)

pub bounds-at-i : goal.bounds-at-i
bounds-at-i c = omega (arith, ids-within _ _ c.closer_ids-ids.ensures _ c.loop-i-test.true)

pub offset_bounds-end-i : goal.offset_bounds-end-i
offset_bounds-end-i c = omega (arith, ids-within _ _ c.closer_ids-ids.ensures _ c.loop-i-test.true)

pub bounds-end-i : goal.bounds-end-i
bounds-end-i c = omega (arith, ids-within _ _ c.closer_ids-ids.ensures _ c.loop-i-test.true)

pub slice_bounds-hear_one-count : goal.slice_bounds-hear_one-count
slice_bounds-hear_one-count c = cut-order _ _ c.closer_ids-ids.ensures _ c.loop-i-test.true

pub slice_bounds-hear_one-start : goal.slice_bounds-hear_one-start
slice_bounds-hear_one-start c = cut-order _ _ c.closer_ids-ids.ensures _ c.loop-i-test.true

pub slice_bounds-hear_one-end : goal.slice_bounds-hear_one-end
slice_bounds-hear_one-end c = cut-end _ _ c.closer_ids-ids.ensures _ c.loop-i-test.true

pub hear_one-requires : goal.hear_one-requires
hear_one-requires c = (hearing-long _ _ _ _ _ _ c.requires.0 c.loop-i.invariant, hearing-room _ _ _ _ _ _ c.loop-i.invariant)

pub loop-i-preserved : goal.loop-i-preserved
loop-i-preserved c = hearing-one _ _ _ c.closer_ids-ids.ensures _ _ _ c.loop-i-test.true c.loop-i.invariant c.hear_one.ensures

pub shape_of-m : goal.shape_of-m
shape_of-m c = c.loop-i.invariant.become.long

pub returns : goal.returns
returns c = hearing-all _ _ _ c.closer_ids-ids.ensures _ _ _ c.loop-i-test.false c.loop-i.invariant
