-- `record_value`: refused, unless it is a view.
use Rattle.parts.proofs.Own.{record-value-is}
use borrow.Author.Rules.{rules}
use Rattle.parts.proofs.record_value.Goals as goal

pub returns : goal.returns
returns c = record-value-is _ _ _ c.is_view.ensures _ c.entry_if.ensures
