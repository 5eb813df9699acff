-- `entry_size`: id and address list, with their lengths and the connection.
use native.Mathlib.Omega.{arith}
use Rattle.writer.proofs.Entries.{peer-is}
use borrow.Author.Rules.{rules}
use Rattle.writer.proofs.entry_size.Goals as goal

pub returns : goal.returns
returns c = (peer-is _ _ _ c.two_at-i.ensures.0 c.two_at.ensures.0, omega arith)
