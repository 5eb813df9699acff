-- `sightings::settle` meets its contract. Assumes nothing.
use mathlib.Core.Path.{sym, ◌∙◌}
use Rattle.sightings.proofs.Calls.{settle-stale, settle-in, settle-kept, settle-free, settle-low, settle-swapped}
use Rattle.sightings.proofs.settle.Goals as goal

pub returns-then-not-still_fits : goal.returns-then-not-still_fits
returns-then-not-still_fits c = settle-stale c.args.table.now c.args.ours.now c.args.head.now c.args.p c.args.answered (sym c.still_fits.ensures ∙ c.if-not-still_fits.true)

pub move_to_tail-requires : goal.move_to_tail-requires
move_to_tail-requires c = settle-in c.args.table.now c.args.ours.now c.args.head.now c.args.p c.args.answered (sym c.still_fits.ensures ∙ c.if-not-still_fits.false) _ c.held_at-i.ensures

pub returns-then-answered : goal.returns-then-answered
returns-then-answered c = settle-kept c.args.table.now c.args.ours.now c.args.head.now c.args.p c.args.answered (sym c.still_fits.ensures ∙ c.if-not-still_fits.false) _ c.held_at-i.ensures _ c.if-answered.true c.move_to_tail.ensures

pub drop_slot-requires : goal.drop_slot-requires
drop_slot-requires c = settle-in c.args.table.now c.args.ours.now c.args.head.now c.args.p c.args.answered (sym c.still_fits.ensures ∙ c.if-not-still_fits.false) _ c.held_at-i.ensures

pub join_tail-requires : goal.join_tail-requires
join_tail-requires c = (settle-free c.args.table.now c.args.ours.now c.args.head.now c.args.p c.args.answered (sym c.still_fits.ensures ∙ c.if-not-still_fits.false) _ c.held_at-i.ensures _ c.drop_slot.ensures, settle-low c.args.table.now c.args.ours.now c.args.head.now c.args.p c.args.answered (sym c.still_fits.ensures ∙ c.if-not-still_fits.false) _ c.held_at-i.ensures _ c.drop_slot.ensures)

pub returns : goal.returns
returns c = settle-swapped c.args.table.now c.args.ours.now c.args.head.now c.args.p c.args.answered (sym c.still_fits.ensures ∙ c.if-not-still_fits.false) _ c.held_at-i.ensures _ c.drop_slot.ensures _ c.if-answered.false c.join_tail.ensures
