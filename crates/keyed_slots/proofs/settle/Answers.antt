-- `settle`: a free slot, one whose key stands already, and one that is put in its place.
use native.Mathlib.Omega.{arith}
use Rattle.keyed_slots.proofs.Laying.{slots-most}
use Rattle.keyed_slots.proofs.Ordering.{settle-free, settle-twice, settle-new}
use Rattle.keyed_slots.proofs.settle.Goals as goal

pub returns-then-s-lt1 : goal.returns-then-s-lt1
returns-then-s-lt1 c = settle-free c.args.size c.args.store.now c.args.order.now c.args.held c.args.i c.requires.1 c.requires.0 c.slot_at-s.ensures.0 (omega arith)

pub returns-then-stands_at : goal.returns-then-stands_at
returns-then-stands_at c = settle-twice c.args.size c.args.store.now c.args.order.now c.args.held c.args.i c.requires.1 c.requires.0 c.slot_at-s.ensures.0 (omega arith) c.key_of-key.ensures c.place_for-p.result c.place_for-p.ensures c.stands_at.ensures c.if-stands_at.true

pub overflow_cast-i : goal.overflow_cast-i
overflow_cast-i c = omega (arith, c.requires.0, slots-most c.args.size c.args.store.now)

pub insert-requires : goal.insert-requires
insert-requires c = (c.place_for-p.ensures.most, omega (arith, c.requires.1.few, c.requires.1.size, c.requires.0, slots-most c.args.size c.args.store.now))

pub returns : goal.returns
returns c = settle-new c.args.size c.args.store.now c.args.order.now c.args.held c.args.i c.requires.1 c.requires.0 c.slot_at-s.ensures.0 (omega arith) c.key_of-key.ensures c.place_for-p.result c.place_for-p.ensures c.stands_at.ensures c.if-stands_at.false c.insert.new.order c.insert.ensures
