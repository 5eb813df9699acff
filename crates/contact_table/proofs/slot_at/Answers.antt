-- `slot_at` cuts a slot out.
use mathlib.Core.Path.{refl}
use Rattle.contact_table.specs.Table.{slot}
use Rattle.contact_table.proofs.Cuts.{slot-size}
use borrow.Author.Rules.{rules}
use Rattle.contact_table.proofs.slot_at.Goals as goal

pub returns : goal.returns
unfolding slot
returns c = (refl, slot-size c.args.table.now c.args.i c.requires)
