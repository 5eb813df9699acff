-- `peer::keep` meets its contract. The loop's invariant is `Scan`. Assumes nothing.
use mathlib.Core.Path.{refl, sym, ◌∙◌}
use Prim.Native.Nat.{◌-◌}
use native.Mathlib.Omega.{arith}
use lib.ListN.{length}
use Rattle.peer.proofs.Lists.{Scan, start, addrs-same, lens_same, lens-four, finish-full, finish-short, here, skip, take-one, size-most}
use borrow.Author.Tests.{not-true, not-false}
use Rattle.peer.proofs.keep.Given as goal

abbrev pub invariant-loop-count : goal.invariant-loop-count
invariant-loop-count l = Scan l.list l.addrs l.lens l.count l.at

abbrev pub decreases-loop-count : goal.decreases-loop-count
decreases-loop-count l = length l.list - l.at
