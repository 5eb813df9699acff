use Prim.Native.Nat.{◌-◌}
use mathlib.Core.Path.{◌≡◌}
use lib.ListN.{length}
use Rattle.flat_lookup.proofs.Writing.{Putting, put-none}
use Rattle.lookup_in_place.specs.Inner.{members_of}
use Rattle.lookup_in_place.proofs.Starting.{member-put, lookup-long, lookup-put}
use borrow.Author.Rules.{rules}
use Rattle.std.proofs.Common.{arith}
use Rattle.lookup_in_place.proofs.put_lookup.Goals as goal
use Rattle.lookup_in_place.proofs.put_lookup.Goals.{Start}

at_long : (c : Start) → length c.args.at ≡ 20
at_long c = omega arith

pub loop-i-init : goal.loop-i-init
loop-i-init c = put-none _ _

pub loop-i-preserved : goal.loop-i-preserved
loop-i-preserved c = member-put c.args.table.now c.args.at c.args.n (at_long (goal.at.loop-i-preserved c).Start) c.requires _ _ _ _ _ c.loop-i-test.true c.member.ensures c.put_at.ensures c.loop-i.invariant

pub shape_of-m : goal.shape_of-m
shape_of-m c = lookup-long c.args.table.now c.args.at c.args.n (at_long (goal.at.shape_of-m c).Start) c.requires _ _ _ _ _ _ _ _ c.put_head.ensures c.loop-i.invariant

pub returns : goal.returns
returns c = lookup-put c.args.table.now c.args.at c.args.n (at_long (goal.at.returns c).Start) c.requires _ _ _ _ _ _ _ _ c.put_head.ensures c.loop-i.invariant c.loop-i-test.false
