-- `hear_one`: nobody, or somebody. Assumes nothing.
use Rattle.lookup_in_place.proofs.Steps.{hears-nobody, hears-someone}
use borrow.Author.Rules.{rules}
use Rattle.lookup_candidates.proofs.arrival.Reads as arrival-reads
use Rattle.lookup_in_place.proofs.meet_one.Reads as meet-one-reads
use Rattle.lookup_in_place.proofs.hear_one.Goals as goal

pub returns-then-c-lt1 : goal.returns-then-c-lt1
returns-then-c-lt1 c = hears-nobody c.args.m.now _ _ _ c.arrival-c.ensures c.if-c-lt1.true

pub returns : goal.returns
returns c = hears-someone c.args.m.now _ _ _ _ c.arrival-c.ensures c.if-c-lt1.false c.meet_one.ensures
