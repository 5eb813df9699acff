-- `byte` meets its contract. Assumes nothing.
use Rattle.contact_slots.proofs.Laws.{none-byte}
use borrow.Author.Rules.{rules}
use Rattle.contact_slots.proofs.byte.Goals as goal

pub returns : goal.returns
returns c = none-byte c.args.s.now c.args.k c.if-k-s.false
