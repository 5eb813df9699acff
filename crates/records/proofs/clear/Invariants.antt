-- `clear` stores zero after zero: what is left to clear from `i` on completes the whole.
use native.Mathlib.Omega.{arith}
use Prim.Native.Nat.{◌-◌}
use Rattle.records.proofs.Writing.{Clearing, clearing, clear-on, cleared}
use Rattle.records.proofs.clear.Given as goal

abbrev pub invariant-loop-i : goal.invariant-loop-i
invariant-loop-i l = Clearing l.initial.buf l.at l.n l.buf l.i
