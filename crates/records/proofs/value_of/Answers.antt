-- `value_of` cuts out the value, or what there is room for.
use Rattle.record_slots.proofs.Laying.{value-cut}
use borrow.Author.Rules.{rules}
use Rattle.records.proofs.value_of.Goals as goal

pub returns : goal.returns
returns c = value-cut c.args.s.now c.requires c.held_size-e.ensures
