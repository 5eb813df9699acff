-- `plan_put` makes the tests of `plan_of` in their order.
use native.Mathlib.Omega.{arith}
use borrow.Author.Tests.{not-true, not-false}
use Rattle.records.proofs.Putting.{plan-key, plan-recipe, plan-held, plan-free, plan-full}
use borrow.Author.Rules.{rules}
use Rattle.records.proofs.plan_put.Goals as goal

pub returns-then-not-is_key : goal.returns-then-not-is_key
returns-then-not-is_key c = plan-key c.args.store.now c.args.key.now c.args.value.now c.is_key.ensures c.if-not-is_key.true

pub returns-then-not-check : goal.returns-then-not-check
returns-then-not-check c = plan-recipe c.args.store.now c.args.key.now c.args.value.now c.is_key.ensures c.if-not-is_key.false c.check.ensures c.if-not-check.true

pub returns-then-i-slots : goal.returns-then-i-slots
returns-then-i-slots c = plan-held c.args.store.now c.args.key.now c.args.value.now c.is_key.ensures c.if-not-is_key.false c.check.ensures c.if-not-check.false c.slot_with-i.ensures c.slots.ensures c.if-i-slots.true c.slot_at.ensures.0 c.value_of.ensures c.held_plan.ensures

pub returns-then-j-slots : goal.returns-then-j-slots
returns-then-j-slots c = plan-free c.args.store.now c.args.key.now c.args.value.now c.is_key.ensures c.if-not-is_key.false c.check.ensures c.if-not-check.false c.slot_with-i.ensures c.slots.ensures c.if-i-slots.false c.free_slot-j.ensures (omega (arith, c.slots.ensures, c.slots-2.ensures, c.if-j-slots.true))

pub returns : goal.returns
returns c = plan-full c.args.store.now c.args.key.now c.args.value.now c.is_key.ensures c.if-not-is_key.false c.check.ensures c.if-not-check.false c.slot_with-i.ensures c.slots.ensures c.if-i-slots.false c.free_slot-j.ensures (omega (arith, c.slots.ensures, c.slots-2.ensures, c.if-j-slots.false))
