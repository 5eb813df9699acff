-- `follows_at`: well made, then farther. Assumes nothing.
use Prim.Native.Nat.{◌+◌}
use Rattle.lookup_in_place.proofs.Parts.{follows-far}
use Rattle.octets.proofs.Bools.{both-no}
use Rattle.flat_lookup.specs.FlatLookup.{candidate_at}
use borrow.Author.Rules.{rules}
use Rattle.lookup_in_place.proofs.place_at.Reads as place-at-reads
use Rattle.lookup_in_place.proofs.target_in.Reads as target-in-reads
use Rattle.lookup_in_place.proofs.well_made_at.Reads as well-made-at-reads
use Rattle.place.proofs.nearer.Reads as nearer-reads
use Rattle.std.proofs.Common.{ap}
use mathlib.Core.Bool.{not}
use Rattle.lookup_in_place.proofs.follows_at.Goals as goal

pub returns-then-not-well_made_at : goal.returns-then-not-well_made_at
returns-then-not-well_made_at c = both-no _ _ _ c.well_made_at.ensures (ap not c.if-not-well_made_at.true)

pub returns : goal.returns
returns c = follows-far (candidate_at c.args.m.now c.args.i) (candidate_at c.args.m.now (c.args.i + 1)) _ _ _ _ _ _ c.well_made_at.ensures (ap not c.if-not-well_made_at.false) c.target_in.ensures c.place_at.ensures c.place_at-2.ensures c.nearer.ensures
