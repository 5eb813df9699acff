-- `front`: the whole slice, or its first bytes.
use lib.Seq.{take_all, length-take-le}
use mathlib.Core.Path.{sym}
use native.Mathlib.Omega.{arith}
use borrow.Author.Rules.{rules}
use Rattle.message.proofs.front.Goals as goal

pub returns-then-s-end : goal.returns-then-s-end
returns-then-s-end c = sym (take_all _ _ c.if-s-end.true)

pub slice_bounds-result-end : goal.slice_bounds-result-end
slice_bounds-result-end c = sym (length-take-le _ _ (omega arith))
