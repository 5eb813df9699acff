-- `lies_among`: none of the first k lies there.
use Prim.Native.Nat.{◌-◌}
use native.Mathlib.Omega.{arith}
use Rattle.replies.proofs.Runs.{Searching, search-none, search-on, search-hit, search-miss}
use borrow.Author.Rules.{rules}
use Rattle.replies.proofs.lies_among.Given as goal

abbrev pub invariant-loop-k : goal.invariant-loop-k
invariant-loop-k l = Searching l.table l.near l.x l.n l.k
