-- `member`: one of the first n, or nobody. Assumes nothing.
use mathlib.Core.Path.{◌≡◌}
use lib.ListN.{length}
use Rattle.lookup_in_place.proofs.Starting.{member-held, member-none}
use borrow.Author.Rules.{rules}
use Rattle.std.proofs.Common.{arith}
use Rattle.lookup_in_place.proofs.member.Goals as goal
use Rattle.lookup_in_place.proofs.member.Goals.{Start}

at_long : (c : Start) → length c.args.at ≡ 20
at_long c = omega arith

pub returns-then-i-n : goal.returns-then-i-n
returns-then-i-n c = member-held c.args.table.now c.args.at c.args.n (at_long (goal.at.returns-then-i-n c).Start) c.requires.0 _ _ c.if-i-n.true c.contact.ensures

pub returns : goal.returns
returns c = member-none c.args.table.now c.args.at c.args.n (at_long (goal.at.returns c).Start) c.requires.0 _ _ c.if-i-n.false c.requires.1 c.no_candidate.ensures
