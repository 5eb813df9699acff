-- `key`: refused, unless it is a view.
use Rattle.parts.proofs.Own.{key-is}
use borrow.Author.Rules.{rules}
use Rattle.parts.proofs.key.Goals as goal

pub returns : goal.returns
returns c = key-is _ _ _ c.is_view.ensures _ c.part_if.ensures
