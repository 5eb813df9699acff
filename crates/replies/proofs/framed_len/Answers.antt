-- `framed_len`: prefix and body.
use native.Mathlib.Omega.{arith}
use Rattle.replies.proofs.Whole.{prefix-short}
use borrow.Author.Rules.{rules}
use Rattle.replies.proofs.framed_len.Goals as goal

pub overflow_add-result : goal.overflow_add-result
overflow_add-result c = omega (arith, c.varint_len.ensures, prefix-short _ c.requires)
