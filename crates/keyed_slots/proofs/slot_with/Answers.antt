use native.Mathlib.Omega.{arith}
use mathlib.Core.Path.{sym, ◌∙◌}
use Rattle.octets.proofs.Searching.{first-hit, first-miss}
use Rattle.keyed_slots.specs.Slots.{slots_of, holds, slot_with}
use Rattle.octets.proofs.Searching.{none_yet, none_more}
use Rattle.keyed_slots.proofs.slot_with.Goals as goal

pub loop-i-init : goal.loop-i-init
loop-i-init c = (omega arith, none_yet (holds c.args.size c.args.store.now c.args.key.now))

pub slot_holds-requires : goal.slot_holds-requires
slot_holds-requires c = omega (arith, c.slots-n.ensures)

pub returns-then-slot_holds : goal.returns-then-slot_holds
unfolding slot_with
returns-then-slot_holds c = first-hit (holds c.args.size c.args.store.now c.args.key.now) (slots_of c.args.size c.args.store.now) c.loop-i.i (omega (arith, c.slots-n.ensures)) c.loop-i.invariant.1 (sym c.slot_holds.ensures ∙ c.if-slot_holds.true)

pub loop-i-preserved : goal.loop-i-preserved
loop-i-preserved c = (omega arith, none_more (holds c.args.size c.args.store.now c.args.key.now) c.loop-i.i c.loop-i.invariant.1 (sym c.slot_holds.ensures ∙ c.if-slot_holds.false))

pub returns : goal.returns
unfolding slot_with
returns c = c.slots-n.ensures ∙ first-miss (holds c.args.size c.args.store.now c.args.key.now) (slots_of c.args.size c.args.store.now) (λ j l. c.loop-i.invariant.1 j (omega (arith, c.slots-n.ensures)))
