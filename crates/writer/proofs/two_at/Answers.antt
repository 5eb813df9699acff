-- `two_at`: the lower byte, then the higher.
use native.Mathlib.Omega.{arith}
use Rattle.writer.proofs.Entries.{two_is}
use borrow.Author.Rules.{rules}
use Rattle.writer.proofs.two_at.Goals as goal

pub returns : goal.returns
returns c = (two_is _ _ _ _ c.byte_at.ensures.0 c.byte_at-2.ensures.0, omega arith)
