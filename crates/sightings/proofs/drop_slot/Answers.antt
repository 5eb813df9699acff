-- `sightings::drop_slot` meets its contract. Assumes nothing.
use mathlib.Core.Path.{ap, sym, ◌∙◌, subst}
use Prim.Native.Nat.{ℕ, ◌<◌}
use Rattle.contacts.specs.Table.{slots_of}
use Rattle.contact_order.proofs.Closing.{leave-slots}
use Rattle.sightings.proofs.Moves.{drop-done}
use Rattle.sightings.proofs.drop_slot.Goals as goal

pub clear_slot-requires : goal.clear_slot-requires
clear_slot-requires c = subst (λ (n : ℕ). c.args.i < n) (sym (ap slots_of c.leave_order.ensures ∙ leave-slots c.args.table.now c.args.ours.now c.args.i)) c.requires

pub returns : goal.returns
returns c = drop-done c.args.table.now c.args.ours.now c.args.i _ _ c.leave_order.ensures c.clear_slot.ensures
