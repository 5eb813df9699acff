-- `sightings::seen` meets its contract. Assumes nothing.
use Rattle.sightings.proofs.Calls.{seen-held, seen-fresh, seen-tidied}
use Rattle.sightings.proofs.seen.Goals as goal

pub returns-then-i-slots : goal.returns-then-i-slots
returns-then-i-slots c = let a = c.args in
    seen-tidied a.table.now a.ours.now a.p _ _ _ c.tidied-q.ensures
    (seen-held a.table.now a.ours.now c.tidied-q.result _ _ c.slots.ensures c.held_at-i.ensures _ c.if-i-slots.true c.move_and_renew.ensures)

pub returns : goal.returns
returns c = let a = c.args in
    seen-tidied a.table.now a.ours.now a.p _ _ _ c.tidied-q.ensures
    (seen-fresh a.table.now a.ours.now c.tidied-q.result _ _ c.slots.ensures c.held_at-i.ensures _ _ c.if-i-slots.false c.seen_new.ensures)
