-- `flies_at`: the mark, then the place. Assumes nothing.
use Rattle.lookup_in_place.proofs.Parts.{flies-not, flies-there}
use Rattle.flat_lookup.specs.FlatLookup.{candidate_at}
use borrow.Author.Rules.{rules}
use Rattle.lookup_in_place.proofs.mark_at.Reads as mark-at-reads
use Rattle.lookup_in_place.proofs.place_at.Reads as place-at-reads
use Rattle.octets.proofs.same_bytes.Reads as same-bytes-reads
use Rattle.lookup_in_place.proofs.flies_at.Goals as goal

pub returns-then-mark-ne-IN_FLIGHT : goal.returns-then-mark-ne-IN_FLIGHT
returns-then-mark-ne-IN_FLIGHT c = flies-not _ (candidate_at c.args.m.now c.args.i) _ c.mark_at-mark.ensures c.if-mark-ne-IN_FLIGHT.true

pub returns : goal.returns
returns c = flies-there _ (candidate_at c.args.m.now c.args.i) _ _ _ c.mark_at-mark.ensures c.if-mark-ne-IN_FLIGHT.false c.place_at.ensures c.same_bytes.ensures
