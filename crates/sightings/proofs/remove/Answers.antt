-- `sightings::remove` meets its contract. Assumes nothing.
use Rattle.sightings.proofs.Calls.{remove-held, remove-none}
use Rattle.sightings.proofs.remove.Goals as goal

pub returns-then-slots-leaving : goal.returns-then-slots-leaving
returns-then-slots-leaving c = remove-none c.args.table.now c.args.ours.now c.args.p.now _ _ c.slots.ensures c.held_at-leaving.ensures c.if-slots-leaving.true

pub returns : goal.returns
returns c = remove-held c.args.table.now c.args.ours.now c.args.p.now _ _ c.slots.ensures c.held_at-leaving.ensures _ c.if-slots-leaving.false c.drop_slot.ensures
