-- `target_in`: cut out. Assumes nothing.
use Rattle.lookup_in_place.proofs.Parts.{target-read}
use borrow.Author.Rules.{rules}
use Rattle.lookup_in_place.proofs.target_in.Goals as goal

pub returns : goal.returns
returns c = target-read c.args.m.now c.requires
