-- `is_beyond`: the places, compared. Assumes nothing.
use Rattle.lookup_in_place.proofs.Steps.{beyond-by}
use Rattle.flat_lookup.specs.FlatLookup.{candidate_at}
use borrow.Author.Rules.{rules}
use Rattle.lookup_in_place.proofs.place_at.Reads as place-at-reads
use Rattle.lookup_in_place.proofs.target_in.Reads as target-in-reads
use Rattle.place.proofs.nearer.Reads as nearer-reads
use Rattle.lookup_in_place.proofs.is_beyond.Goals as goal

pub returns : goal.returns
returns c = beyond-by _ _ (candidate_at c.args.m.now c.args.i) _ _ _ c.target_in.ensures c.place_at.ensures c.nearer.ensures
