-- `turn_away`: one byte anew. Assumes nothing.
use Rattle.lookup_in_place.proofs.Arrivals.{turned}
use borrow.Author.Rules.{rules}
use Rattle.lookup_in_place.proofs.turn_away.Goals as goal

pub returns : goal.returns
returns c = turned c.args.m.now c.requires
