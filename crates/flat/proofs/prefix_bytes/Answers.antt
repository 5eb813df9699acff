-- `prefix_bytes` goes by the bytes that are held. Assumes nothing.
use Rattle.flat.proofs.Writing.{nothing_written, one_written, two-written}
use borrow.Author.Rules.{rules}
use Rattle.flat.proofs.prefix_bytes.Goals as goal

pub returns-in-Nothing : goal.returns-in-Nothing
returns-in-Nothing c = nothing_written _ _ c.in-Nothing.is c.eight.ensures

pub returns-in-One : goal.returns-in-One
returns-in-One c = one_written _ _ _ c.in-One.is c.eight-in-One.ensures

pub returns-in-Two : goal.returns-in-Two
returns-in-Two c = two-written _ _ _ _ c.in-Two.is c.eight-in-Two.ensures
