-- `contact_order::free_at` meets its contract. The loop's invariant: no slot before i is free. Assumes nothing.
use native.Mathlib.Omega.{arith}
use mathlib.Core.Bool.{false, not}
use mathlib.Core.Path.{◌≡◌}
use Prim.Native.Nat.{ℕ, ◌-◌, ◌<◌, ◌≤◌}
use Rattle.contacts.specs.Table.{slot, used}
use Rattle.contact_order.specs.Order.{free_at}
use Rattle.octets.proofs.Searching.{none_yet, none_more, found, not_found}
use Rattle.contact_order.proofs.Tests.{free-yes, free-no}
use Rattle.contact_order.proofs.free_at.Given as goal

abbrev pub invariant-loop-i : goal.invariant-loop-i
invariant-loop-i l = (l.i ≤ l.n) × ((j : ℕ) → j < l.i → not (used (slot l.table j)) ≡ false)
