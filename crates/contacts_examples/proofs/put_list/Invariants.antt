-- `contacts_examples::put_list` meets its contract. Assumes nothing.
use mathlib.Core.Path.{◌≡◌}
use lib.ListN.{length}
use Prim.Native.Nat.{◌-◌, ◌*◌, ◌≤◌, ◌<◌}
use Rattle.contacts_examples.proofs.put_list.Given as goal

abbrev pub invariant-loop-k : goal.invariant-loop-k
invariant-loop-k l = (l.at ≤ 142 * l.k) × (l.k ≤ l.n) × (l.n < 6) × (length l.buf ≡ length l.initial.buf)
