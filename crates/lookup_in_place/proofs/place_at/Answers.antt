-- `place_at`: cut out. Assumes nothing.
use Rattle.lookup_in_place.proofs.Parts.{place_read}
use borrow.Author.Rules.{rules}
use Rattle.lookup_in_place.proofs.place_at.Goals as goal

pub returns : goal.returns
returns c = place_read c.args.m.now c.args.i c.requires.0 c.requires.1
