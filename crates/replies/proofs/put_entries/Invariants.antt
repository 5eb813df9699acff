-- `put_entries`: the first k contacts are written.
use Prim.Native.Nat.{◌-◌}
use native.Mathlib.Omega.{arith}
use Rattle.wire_put.proofs.Putting.{put-length}
use Rattle.replies.proofs.Runs.{PuttingOn, putting-none, putting-one, putting-all}
use borrow.Author.Rules.{rules}
use Rattle.replies.proofs.put_entries.Given as goal

abbrev pub invariant-loop-k : goal.invariant-loop-k
invariant-loop-k l = PuttingOn l.table l.near l.initial.buf l.from l.n l.buf l.to l.k
