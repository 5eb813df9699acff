-- `set_mark`: one byte anew. Assumes nothing.
use Rattle.lookup_in_place.proofs.Whole.{marked}
use borrow.Author.Rules.{rules}
use Rattle.lookup_in_place.proofs.set_mark.Goals as goal

pub returns : goal.returns
returns c = marked c.args.m.now c.args.i c.args.v c.requires.0 c.requires.1
