-- `put_numbers` stores number by number: what is left to store from `i` on completes the whole. Assumes nothing.
use native.Mathlib.Omega.{arith}
use Prim.Native.Nat.{◌-◌}
use Rattle.octets.proofs.Stores.{Copying, copying, copy-on, copied}
use Rattle.host_numbers.proofs.put_numbers.Given as goal

abbrev pub invariant-loop-i : goal.invariant-loop-i
invariant-loop-i l = Copying l.initial.out l.at l.numbers l.n l.out l.i
