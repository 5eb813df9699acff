-- `gather`: the fields from `at` on make the whole of what has been read so far.
use Prim.Native.Nat.{◌-◌}
use mathlib.Core.Path.{◌≡◌}
use lib.ListN.{length}
use borrow.Author.Rules.{rules}
use Rattle.wire.specs.Wire.{fields_at}
use Rattle.wire.proofs.Scan.{next-is, nearer}
use Rattle.message.specs.Inner.{finished, gathered}
use Rattle.message.proofs.Gathering.{gather-start, gather-done, gather-stuck, gather-on, gather-broken}
use Rattle.message.proofs.gather.Given as goal

abbrev pub invariant-loop-next : goal.invariant-loop-next
invariant-loop-next l = finished l.s l.m (fields_at l.s l.at) ≡ gathered l.s

abbrev pub decreases-loop-next : goal.decreases-loop-next
decreases-loop-next l = length l.s - l.at
