-- `contact_order::tail_of` meets its contract. The loop's invariant: top is the largest mark of the bucket before i. Assumes nothing.
use native.Mathlib.Omega.{arith}
use mathlib.Core.Path.{◌≡◌, sym, ap, ◌∙◌}
use Prim.Native.Nat.{ℕ, ◌-◌, ◌≤◌, max}
use Rattle.octets.specs.Search.{largest}
use Rattle.octets.proofs.Searching.{largest-zero, largest-more}
use Rattle.contacts.specs.Table.{slot}
use Rattle.contact_order.specs.Order.{mark_in, tail_of}
use Rattle.contact_order.proofs.tail_of.Given as goal

abbrev pub invariant-loop-i : goal.invariant-loop-i
invariant-loop-i l = (l.i ≤ l.n) × (l.top ≡ largest l.i (λ (j : ℕ). mark_in l.ours l.b (slot l.table j)))
