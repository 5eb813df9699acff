-- `stands_at` looks at the slot that the order has at the place.
use native.Mathlib.Omega.{arith}
use Rattle.keyed_slots.proofs.Ordering.{stands-past, stands-is}
use Rattle.keyed_slots.proofs.stands_at.Goals as goal

pub returns-then-held-p : goal.returns-then-held-p
returns-then-held-p c = stands-past c.args.size c.args.store.now c.args.order.now c.args.held c.args.p c.args.key.now (omega arith)

pub overflow_cast-j : goal.overflow_cast-j
overflow_cast-j c = omega (arith, c.type_inv.order c.args.p)

pub slot_holds-requires : goal.slot_holds-requires
slot_holds-requires c = c.requires.slots c.args.p (omega arith)

pub returns : goal.returns
returns c = stands-is c.args.size c.args.store.now c.args.order.now c.args.held c.args.p c.args.key.now (omega arith) c.slot_holds.ensures
