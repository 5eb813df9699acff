-- `put_twenty` copies an entry at a time; the list keeps its length.
use Prim.Native.Nat.{◌≤◌, ◌-◌}
use mathlib.Core.Path.{◌≡◌}
use lib.ListN.{length}
use Rattle.message_examples.proofs.put_twenty.Given as goal

abbrev pub invariant-loop-k : goal.invariant-loop-k
invariant-loop-k l = (l.k ≤ 20) × (length l.list ≡ length l.initial.list)
