-- `eight` meets its contract. Assumes nothing.
use Rattle.flat.proofs.Writing.{eight-written}
use borrow.Author.Rules.{rules}
use Rattle.flat.proofs.eight.Goals as goal

pub returns : goal.returns
returns c = eight-written c.args.kind c.args.held c.args.a c.args.b c.args.want c.args.have _ _ _ _ c.low-want_low.ensures c.high-want_high.ensures c.low-have_low.ensures c.high-have_high.ensures
