-- `slots` counts as `keyed_slots` does.
use mathlib.Core.Path.{◌∙◌}
use Rattle.record_slots.proofs.Keyed.{slots_same}
use borrow.Author.Rules.{rules}
use Rattle.record_slots.proofs.slots.Goals as goal

pub returns : goal.returns
returns c = c.slots.ensures ∙ slots_same c.args.store.now
