-- `address_at`: the address looked for is among those that are left.
use Prim.Native.Nat.{◌-◌}
use native.Mathlib.Omega.{arith}
use borrow.Author.Rules.{rules}
use Rattle.writer.proofs.Entries.{Seeking, seeking, seek-on, seek-end, seek_found}
use Rattle.writer.proofs.address_at.Given as goal

abbrev pub invariant-loop-i : goal.invariant-loop-i
invariant-loop-i l = Seeking l.list l.k l.i l.at
