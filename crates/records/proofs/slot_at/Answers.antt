-- `slot_at` cuts out a slot.
use native.Mathlib.Omega.{arith}
use mathlib.Core.Path.{ap, ◌∙◌}
use lib.ListN.{length}
use Rattle.record_slots.proofs.Laying.{slot-in, slot-long, slot-cut}
use borrow.Author.Rules.{rules}
use Rattle.records.proofs.slot_at.Goals as goal

pub overflow_mul-a : goal.overflow_mul-a
overflow_mul-a c = omega (arith, slot-in c.args.store.now c.args.i c.requires)

pub overflow_add-e : goal.overflow_add-e
overflow_add-e c = omega (arith, slot-in c.args.store.now c.args.i c.requires)

pub slice_bounds-result-end : goal.slice_bounds-result-end
slice_bounds-result-end c = omega (arith, slot-in c.args.store.now c.args.i c.requires)

pub returns : goal.returns
returns c = (slot-cut c.args.store.now c.args.i, ap length (slot-cut c.args.store.now c.args.i) ∙ slot-long c.args.store.now c.args.i c.requires)
