-- `free_slot` finds as `keyed_slots` does.
use mathlib.Core.Path.{◌∙◌}
use Rattle.record_slots.proofs.Keyed.{free-same}
use borrow.Author.Rules.{rules}
use Rattle.record_slots.proofs.free_slot.Goals as goal

pub returns : goal.returns
returns c = c.free_slot.ensures ∙ free-same c.args.store.now
