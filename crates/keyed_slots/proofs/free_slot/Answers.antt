use native.Mathlib.Omega.{arith}
use mathlib.Core.Path.{◌∙◌}
use Rattle.octets.proofs.Searching.{first-hit, first-miss}
use Rattle.keyed_slots.specs.Slots.{slots_of, is_free, free_slot}
use Rattle.keyed_slots.proofs.Laying.{free-yes, free-no}
use Rattle.octets.proofs.Searching.{none_yet, none_more}
use Rattle.keyed_slots.proofs.free_slot.Goals as goal

pub loop-i-init : goal.loop-i-init
loop-i-init c = (omega arith, none_yet (is_free c.args.size c.args.store.now))

pub slot_at-s-requires : goal.slot_at-s-requires
slot_at-s-requires c = omega (arith, c.slots-n.ensures)

pub bounds-s-0 : goal.bounds-s-0
bounds-s-0 c = omega (arith, c.slot_at-s.ensures.1)

pub returns-then-s-lt1 : goal.returns-then-s-lt1
unfolding free_slot
returns-then-s-lt1 c = first-hit (is_free c.args.size c.args.store.now) (slots_of c.args.size c.args.store.now) c.loop-i.i (omega (arith, c.slots-n.ensures)) c.loop-i.invariant.1 (free-yes c.args.size c.args.store.now c.loop-i.i c.slot_at-s.ensures.0 (omega arith))

pub loop-i-preserved : goal.loop-i-preserved
loop-i-preserved c = (omega arith, none_more (is_free c.args.size c.args.store.now) c.loop-i.i c.loop-i.invariant.1 (free-no c.args.size c.args.store.now c.loop-i.i c.slot_at-s.ensures.0 (omega arith)))

pub returns : goal.returns
unfolding free_slot
returns c = c.slots-n.ensures ∙ first-miss (is_free c.args.size c.args.store.now) (slots_of c.args.size c.args.store.now) (λ j l. c.loop-i.invariant.1 j (omega (arith, c.slots-n.ensures)))
