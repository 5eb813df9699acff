-- `put_lookup`: what stands before the candidates, and the first i of them, were stored. Assumes nothing.
use Prim.Native.Nat.{◌-◌}
use mathlib.Core.Path.{◌≡◌}
use lib.ListN.{length}
use Rattle.flat_lookup.proofs.Writing.{Putting, put-none}
use Rattle.lookup_in_place.specs.Inner.{members_of}
use Rattle.lookup_in_place.proofs.Starting.{member-put, lookup-long, lookup-put}
use borrow.Author.Rules.{rules}
use Rattle.lookup_in_place.proofs.put_lookup.Given as goal

abbrev pub invariant-loop-i : goal.invariant-loop-i
invariant-loop-i l = Putting l.initial.m (members_of l.table l.at l.n) l.m l.i
