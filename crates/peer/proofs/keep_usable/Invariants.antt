-- `peer::keep_usable` meets its contract. The loop's invariant is `Kept`. Assumes nothing.
use mathlib.Core.Path.{◌≡◌, sym, ◌∙◌}
use Prim.Native.Nat.{◌-◌}
use native.Mathlib.Omega.{arith}
use lib.ListN.{length, length-map}
use Rattle.peer.proofs.Lists.{size-most}
use Rattle.peer.proofs.Tidy.{Kept, kept-none, kept-most, rooms_same, sizes-four, sizes-same, kept-all, kept-skip, kept_more}
use borrow.Author.Rules.{rules}
use borrow.Author.Tests.{not-true, not-false}
use Rattle.peer.proofs.keep_usable.Given as goal

abbrev pub invariant-loop-k : goal.invariant-loop-k
invariant-loop-k l = Kept l.p l.addrs l.lens l.count l.k
