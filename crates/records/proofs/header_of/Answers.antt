-- `header_of` lays out the header.
use Rattle.records.proofs.Writing.{header_is}
use borrow.Author.Rules.{rules}
use Rattle.records.proofs.header_of.Goals as goal

pub returns : goal.returns
returns c = header_is c.args.k c.args.v
