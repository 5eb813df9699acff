-- `record_key`: refused, unless it is a view.
use Rattle.parts.proofs.Own.{record-key-is}
use borrow.Author.Rules.{rules}
use Rattle.parts.proofs.record_key.Goals as goal

pub returns : goal.returns
returns c = record-key-is _ _ _ c.is_view.ensures _ c.entry_if.ensures
