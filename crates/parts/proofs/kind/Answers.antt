-- `kind`: refused, unless it is a view.
use Rattle.parts.proofs.Own.{kind-is}
use borrow.Author.Rules.{rules}
use Rattle.parts.proofs.kind.Goals as goal

pub returns : goal.returns
returns c = kind-is _ _ _ c.is_view.ensures _ c.number_if.ensures
