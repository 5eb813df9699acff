-- `ask`: the mark, then all the rest as it was. Assumes nothing.
use Rattle.lookup_in_place.proofs.Whole.{tidied-over}
use borrow.Author.Rules.{rules}
use Rattle.lookup_in_place.proofs.set_mark.Reads as set-mark-reads
use Rattle.lookup_in_place.proofs.tidy.Reads as tidy-reads
use Rattle.lookup_in_place.proofs.ask.Goals as goal

pub returns : goal.returns
returns c = tidied-over _ c.args.m.now _ _ c.requires.0 c.set_mark.ensures c.tidy.ensures
