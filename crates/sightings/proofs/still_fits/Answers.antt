-- `sightings::still_fits` meets its contract. Assumes nothing.
use Rattle.sightings.proofs.Calls.{fits-gone, fits-behind, fits-far, fits-room, fits_last}
use Rattle.sightings.proofs.still_fits.Goals as goal

pub returns-then-n-h : goal.returns-then-n-h
returns-then-n-h c = fits-gone c.args.table.now c.args.ours.now c.args.head.now c.args.p.now _ _ c.slots-n.ensures c.held_at-h.ensures c.if-n-h.true

pub returns-then-mark_of-ne1 : goal.returns-then-mark_of-ne1
returns-then-mark_of-ne1 c = fits-behind c.args.table.now c.args.ours.now c.args.head.now c.args.p.now _ _ c.slots-n.ensures c.held_at-h.ensures c.if-n-h.false _ c.mark_of.ensures c.if-mark_of-ne1.true

pub returns-then-bucket-b : goal.returns-then-bucket-b
returns-then-bucket-b c = fits-far c.args.table.now c.args.ours.now c.args.head.now c.args.p.now _ _ c.slots-n.ensures c.held_at-h.ensures c.if-n-h.false _ c.mark_of.ensures c.if-mark_of-ne1.false _ _ c.bucket-b.ensures c.bucket.ensures c.if-bucket-b.true

pub returns-then-tail_of-ne-BUCKET : goal.returns-then-tail_of-ne-BUCKET
returns-then-tail_of-ne-BUCKET c = fits-room c.args.table.now c.args.ours.now c.args.head.now c.args.p.now _ _ c.slots-n.ensures c.held_at-h.ensures c.if-n-h.false _ c.mark_of.ensures c.if-mark_of-ne1.false _ _ c.bucket-b.ensures c.bucket.ensures c.if-bucket-b.false _ c.tail_of.ensures c.if-tail_of-ne-BUCKET.true

pub returns : goal.returns
returns c = fits_last c.args.table.now c.args.ours.now c.args.head.now c.args.p.now _ _ c.slots-n.ensures c.held_at-h.ensures c.if-n-h.false _ c.mark_of.ensures c.if-mark_of-ne1.false _ _ c.bucket-b.ensures c.bucket.ensures c.if-bucket-b.false _ c.tail_of.ensures c.if-tail_of-ne-BUCKET.false _ c.held_at.ensures
