-- `contact_order::close_up` meets its contract. The loop's invariant: the slots before i have moved. Assumes nothing.
use native.Mathlib.Omega.{arith}
use Prim.Native.Nat.{◌-◌, ◌≤◌}
use Rattle.contact_order.proofs.Closing.{Closing, closing, closing-in, closing-on, closing-length, closed}
use Rattle.contact_order.proofs.close_up.Given as goal

abbrev pub invariant-loop-i : goal.invariant-loop-i
invariant-loop-i l = (l.i ≤ l.n) × Closing l.initial.table l.ours l.b l.m l.i l.table
