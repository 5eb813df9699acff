-- `put_padded` is two runs of stores, one after the other.
use Rattle.records.proofs.Writing.{pad-write}
use borrow.Author.Rules.{rules}
use Rattle.records.proofs.put_padded.Goals as goal

pub returns : goal.returns
returns c = pad-write c.args.buf.now c.args.at c.args.src.now c.args.n c.copy.ensures c.clear.ensures
