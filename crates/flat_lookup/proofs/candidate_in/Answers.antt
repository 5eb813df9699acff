-- `candidate_in`: each field is read. Assumes nothing.
use Rattle.flat_lookup.proofs.Reading.{candidate-read}
use borrow.Author.Rules.{rules}
use Rattle.flat_lookup.proofs.candidate_in.Goals as goal

pub returns : goal.returns
returns c = candidate-read c.args.s.now _ _ _ _ _ c.rest.ensures c.copy.ensures c.place_in-place.ensures c.byte-mark.ensures.0 c.byte-len.ensures.0
