-- `mark_at`: a byte. Assumes nothing.
use Rattle.lookup_in_place.proofs.Parts.{mark-read}
use borrow.Author.Rules.{rules}
use Rattle.lookup_in_place.proofs.mark_at.Goals as goal

pub returns : goal.returns
returns c = mark-read c.args.m.now c.args.i c.requires.1
