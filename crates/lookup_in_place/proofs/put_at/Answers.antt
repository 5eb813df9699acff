-- `put_at`: three runs of stores that meet. Assumes nothing.
use Rattle.flat_lookup.proofs.Writing.{candidate-put}
use lib.ListN.{length, length-map}
use mathlib.Core.Path.{◌≡◌}
use borrow.Author.Rules.{rules}
use Rattle.octets.proofs.copy.Reads as copy-reads
use Rattle.std.proofs.Common.{arith}
use Rattle.lookup_in_place.proofs.put_at.Goals as goal
use Rattle.lookup_in_place.proofs.put_at.Goals.{Start}

id-long : (c : Start) → length c.args.c.id ≡ 64
id-long c = omega arith

place-long : (c : Start) → length c.args.c.place ≡ 32
place-long c = omega arith

pub returns : goal.returns
returns c = candidate-put _ c.args.at c.args.c (id-long (goal.at.returns c).Start) (place-long (goal.at.returns c).Start) _ _ _ c.copy.ensures c.copy-2.ensures c.copy-3.ensures
