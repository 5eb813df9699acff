-- `meet_one`: known, no room, or in. Assumes nothing.
use Rattle.lookup_in_place.proofs.Steps.{meets-known, meets-full, meets-new}
use borrow.Author.Rules.{rules}
use Rattle.lookup_in_place.proofs.come_in.Reads as come-in-reads
use Rattle.flat_lookup.proofs.count_in.Reads as count-in-reads
use Rattle.lookup_in_place.proofs.is_known.Reads as is-known-reads
use Rattle.lookup_in_place.proofs.rank.Reads as rank-reads
use Rattle.lookup_in_place.proofs.turn_away.Reads as turn-away-reads
use Rattle.lookup_in_place.proofs.meet_one.Goals as goal

pub returns-then-is_known : goal.returns-then-is_known
returns-then-is_known c = meets-known c.args.m.now c.args.c _ _ c.count_in-n.ensures c.is_known.ensures c.if-is_known.true

pub returns-then-n-ge-ROOM : goal.returns-then-n-ge-ROOM
returns-then-n-ge-ROOM c = meets-full c.args.m.now c.args.c _ _ c.count_in-n.ensures c.is_known.ensures c.if-is_known.false _ c.if-n-ge-ROOM.true c.turn_away.ensures

pub returns : goal.returns
returns c = meets-new c.args.m.now c.args.c _ _ c.count_in-n.ensures c.is_known.ensures c.if-is_known.false _ _ c.if-n-ge-ROOM.false c.rank-r.ensures.0 c.come_in.ensures
