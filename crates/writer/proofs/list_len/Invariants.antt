-- `list_len`: what was counted, and the peers that are left.
use Prim.Native.Nat.{◌-◌}
use native.Mathlib.Omega.{arith}
use lib.ListN.{length}
use borrow.Author.Rules.{rules}
use Rattle.octets.specs.Octets.{part}
use Rattle.writer.proofs.Entries.{peer-five}
use Rattle.writer.proofs.Counting.{Summing, summing, sum-end, sum-unfit, sum_over, sum-on}
use Rattle.writer.proofs.list_len.Given as goal

abbrev pub invariant-loop-rest : goal.invariant-loop-rest
invariant-loop-rest l = Summing l.field l.s l.sum l.at

abbrev pub decreases-loop-rest : goal.decreases-loop-rest
decreases-loop-rest l = length l.s - l.at
