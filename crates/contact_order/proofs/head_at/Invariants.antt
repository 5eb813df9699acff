-- `contact_order::head_at` meets its contract. The loop's invariant: no slot before i passes. Assumes nothing.
use native.Mathlib.Omega.{arith}
use mathlib.Core.Bool.{false}
use mathlib.Core.Path.{◌≡◌, sym, ◌∙◌}
use Prim.Native.Nat.{ℕ, ◌-◌, ◌<◌, ◌≤◌}
use Rattle.contacts.specs.Table.{slot}
use Rattle.contact_order.specs.Order.{is_head, head_at}
use Rattle.octets.proofs.Searching.{none_yet, none_more, found, not_found}
use Rattle.contact_order.proofs.head_at.Given as goal

abbrev pub invariant-loop-i : goal.invariant-loop-i
invariant-loop-i l = (l.i ≤ l.n) × ((j : ℕ) → j < l.i → is_head l.ours l.b (slot l.table j) ≡ false)
