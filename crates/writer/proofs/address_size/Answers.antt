-- `address_size`: two bytes and the address.
use native.Mathlib.Omega.{arith}
use Rattle.writer.proofs.Entries.{address_is}
use borrow.Author.Rules.{rules}
use Rattle.writer.proofs.address_size.Goals as goal

pub returns : goal.returns
returns c = (address_is _ _ c.two_at.ensures.0, omega arith)
