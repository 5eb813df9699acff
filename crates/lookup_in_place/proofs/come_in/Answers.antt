-- `come_in`: the gap, the candidate, the count. Assumes nothing.
use Rattle.lookup_in_place.proofs.Arrivals.{grows, comes-in}
use Rattle.flat_lookup.specs.Promises.{SizedCandidate}
use lib.ListN.{length-map}
use borrow.Author.Rules.{rules}
use Rattle.lookup_in_place.proofs.make_gap.Reads as make-gap-reads
use Rattle.lookup_in_place.proofs.put_at.Reads as put-at-reads
use Rattle.lookup_in_place.proofs.set_count.Reads as set-count-reads
use Rattle.std.proofs.Common.{arith}
use Rattle.lookup_in_place.proofs.come_in.Goals as goal
use Rattle.lookup_in_place.proofs.come_in.Goals.{Start}

sized : (c : Start) → SizedCandidate c.args.c
sized c = record { id_long = omega arith; place_long = omega arith }

pub returns : goal.returns
returns c = comes-in c.args.m.now _ _ c.args.n c.args.r c.args.c (grows c.args.m.now c.args.n c.args.r c.args.c c.requires.0 c.requires.1 c.requires.2 (sized (goal.at.returns c).Start) _ _ c.make_gap.ensures c.put_at.ensures) c.set_count.ensures
