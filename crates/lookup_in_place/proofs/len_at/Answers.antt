-- `len_at`: a byte. Assumes nothing.
use Rattle.lookup_in_place.proofs.Parts.{len_read}
use borrow.Author.Rules.{rules}
use Rattle.lookup_in_place.proofs.len_at.Goals as goal

pub returns : goal.returns
returns c = len_read c.args.m.now c.args.i c.requires.1
