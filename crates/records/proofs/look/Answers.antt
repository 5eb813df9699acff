-- `look` gives the place of the value in the slot that holds the key.
use native.Mathlib.Omega.{arith}
use Rattle.record_slots.proofs.Laying.{slot-in}
use Rattle.records.proofs.Putting.{look_none, look-held}
use borrow.Author.Rules.{rules}
use Rattle.records.proofs.look.Goals as goal

pub returns : goal.returns
returns c = look_none c.args.store.now c.args.key.now c.slot_with-at.ensures c.slots.ensures (omega arith)

pub overflow_mul-start : goal.overflow_mul-start
overflow_mul-start c = omega (arith, slot-in c.args.store.now c.slot_with-at.result (omega (arith, c.slots.ensures)))

pub overflow_add-start : goal.overflow_add-start
overflow_add-start c = omega (arith, slot-in c.args.store.now c.slot_with-at.result (omega (arith, c.slots.ensures)))

pub overflow_add-end : goal.overflow_add-end
overflow_add-end c = omega (arith, slot-in c.args.store.now c.slot_with-at.result (omega (arith, c.slots.ensures)), c.held_size.ensures)

pub returns-then-at-slots : goal.returns-then-at-slots
returns-then-at-slots c = look-held c.args.store.now c.args.key.now c.slot_with-at.ensures c.slots.ensures (omega arith) c.slot_at.ensures.0 c.held_size.ensures
