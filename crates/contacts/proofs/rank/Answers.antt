use native.Mathlib.Omega.{arith}
use Prim.Native.Nat.{◌+◌, ◌-◌, ◌/◌}
use mathlib.Core.Path.{sym, ◌∙◌}
use Rattle.contacts.proofs.Sorting.{Halving, halving, halve-left, halve-right, halved, held-length, held-count, held_below}
use Rattle.contacts.proofs.rank.Goals as goal

pub loop-low-init : goal.loop-low-init
loop-low-init c = halving c.requires

pub overflow_add-mid : goal.overflow_add-mid
overflow_add-mid c = omega (arith, c.loop-low.invariant.within, held-count c.requires)

pub offset_bounds-at-mid : goal.offset_bounds-at-mid
offset_bounds-at-mid c = omega (arith, c.loop-low.invariant.within, held-count c.requires)

pub bounds-at-mid : goal.bounds-at-mid
bounds-at-mid c = omega (arith, c.loop-low.invariant.within, held-count c.requires, held-length c.requires)

pub closer-requires : goal.closer-requires
closer-requires c = (c.requires.long, c.requires.whole, omega (arith, c.requires.whole, held_below c.requires ((c.loop-low.low + c.loop-low.high) / 2) (omega (arith, c.loop-low.invariant.within))))

pub loop-low-preserved-then-closer : goal.loop-low-preserved-then-closer
loop-low-preserved-then-closer c = halve-left c.requires c.loop-low.low c.loop-low.high ((c.loop-low.low + c.loop-low.high) / 2) c.loop-low.invariant (omega arith) (omega arith) (sym c.closer.ensures ∙ c.if-closer.true)

pub overflow_add-low : goal.overflow_add-low
overflow_add-low c = omega (arith, c.loop-low.invariant.within, held-count c.requires)

pub loop-low-preserved : goal.loop-low-preserved
loop-low-preserved c = halve-right c.requires c.loop-low.low c.loop-low.high ((c.loop-low.low + c.loop-low.high) / 2) c.loop-low.invariant (omega arith) (omega arith) (sym c.closer.ensures ∙ c.if-closer.false)

pub returns : goal.returns
returns c = halved c.requires c.loop-low.low c.loop-low.high c.loop-low.invariant c.loop-low-test.false
