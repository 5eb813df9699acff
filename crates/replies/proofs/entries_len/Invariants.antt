-- `entries_len`: the sizes of the first k contacts, summed up.
use Prim.Native.Nat.{◌-◌}
use native.Mathlib.Omega.{arith}
use Rattle.replies.proofs.Runs.{Summing, sum-none, sum_one, sum-all}
use borrow.Author.Rules.{rules}
use Rattle.replies.proofs.entries_len.Given as goal

abbrev pub invariant-loop-k : goal.invariant-loop-k
invariant-loop-k l = Summing l.table l.near l.n l.sum l.k
