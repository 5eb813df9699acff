-- `put_head`: three runs of stores that meet. Assumes nothing.
use mathlib.Core.Path.{◌≡◌, refl}
use mathlib.Core.List.{[]}
use lib.ListN.{length}
use Rattle.flat_lookup.proofs.Writing.{head-put}
use Rattle.lookup_in_place.specs.Inner.{opened}
use borrow.Author.Rules.{rules}
use Rattle.std.proofs.Common.{arith}
use Rattle.lookup_in_place.proofs.put_head.Goals as goal
use Rattle.lookup_in_place.proofs.put_head.Goals.{Start}

key-long : (c : Start) → length c.args.key ≡ 128
key-long c = omega arith

target-long : (c : Start) → length c.args.target ≡ 32
target-long c = omega arith

pub returns : goal.returns
returns c = head-put _ (opened c.args.key c.args.target c.args.count c.args.size c.args.limit []) _ refl (key-long (goal.at.returns c).Start) (target-long (goal.at.returns c).Start) _ _ _ c.copy.ensures c.copy-2.ensures c.copy-3.ensures
