-- `framing_in` meets its contract. Assumes nothing.
use Rattle.flat.proofs.Reading.{framing-read}
use borrow.Author.Rules.{rules}
use Rattle.flat.proofs.framing_in.Goals as goal

pub returns : goal.returns
returns c = framing-read c.args.bytes.now _ _ _ _ _ _ _ c.framing_of.ensures c.byte-kind.ensures c.byte-held.ensures c.byte-a.ensures c.byte-b.ensures c.pair-want.ensures c.pair-have.ensures
