-- `pair` meets its contract. Assumes nothing.
use Rattle.flat.proofs.Reading.{pair_read}
use borrow.Author.Rules.{rules}
use Rattle.flat.proofs.pair.Goals as goal

pub returns : goal.returns
returns c = pair_read c.args.s.now c.args.at _ _ c.byte-low.ensures c.byte-high.ensures
