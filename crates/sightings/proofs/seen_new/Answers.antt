-- `sightings::seen_new` meets its contract. Assumes nothing.
use Rattle.sightings.proofs.Calls.{new-full, new_none, new-joined}
use Rattle.sightings.proofs.seen_new.Goals as goal

pub returns-then-tail-ge-BUCKET : goal.returns-then-tail-ge-BUCKET
returns-then-tail-ge-BUCKET c = new-full c.args.table.now c.args.ours.now c.args.p _ _ c.bucket-b.ensures c.tail_of-tail.ensures _ c.if-tail-ge-BUCKET.true c.head_at.ensures

pub returns-then-slots-i : goal.returns-then-slots-i
returns-then-slots-i c = new_none c.args.table.now c.args.ours.now c.args.p _ _ c.bucket-b.ensures c.tail_of-tail.ensures _ _ c.if-tail-ge-BUCKET.false c.slots.ensures c.free_at-i.ensures c.if-slots-i.true

pub returns : goal.returns
returns c = new-joined c.args.table.now c.args.ours.now c.args.p _ _ c.bucket-b.ensures c.tail_of-tail.ensures _ _ c.if-tail-ge-BUCKET.false c.slots.ensures c.free_at-i.ensures _ c.if-slots-i.false c.write_slot.ensures
