-- `pick` meets its contract. Assumes nothing.
use mathlib.Core.Path.{refl}
use Rattle.contact_slots.specs.Slots.{contact_from}
use Rattle.contact_slots.proofs.Laws.{if-enough, if-short}
use borrow.Author.Rules.{rules}
use Rattle.contact_slots.proofs.pick.Goals as goal

pub returns-then-has_slots : goal.returns-then-has_slots
unfolding contact_from
returns-then-has_slots c = if-enough c.args.n c.args.room.now _ c.has_slots.ensures _ _ _ c.if-has_slots.true c.contact_in.ensures

pub returns : goal.returns
unfolding contact_from
returns c = if-short c.args.n c.args.room.now _ c.has_slots.ensures _ _ _ c.if-has_slots.false refl
