-- `slot_with` finds as `keyed_slots` does.
use mathlib.Core.Path.{◌∙◌}
use Rattle.record_slots.proofs.Keyed.{with-same}
use borrow.Author.Rules.{rules}
use Rattle.record_slots.proofs.slot_with.Goals as goal

pub returns : goal.returns
returns c = c.slot_with.ensures ∙ with-same c.args.store.now c.args.key.now
