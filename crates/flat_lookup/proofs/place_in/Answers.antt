-- `place_in`: cut out and copied. Assumes nothing.
use Rattle.flat_lookup.proofs.Reading.{bytes_read}
use borrow.Author.Rules.{rules}
use Rattle.flat_lookup.proofs.place_in.Goals as goal

pub returns : goal.returns
returns c = bytes_read 32 c.args.s.now c.args.at _ _ c.rest.ensures c.copy.ensures
