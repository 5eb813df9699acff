use native.Mathlib.Omega.{arith}
use mathlib.Core.Bool.{false, not}
use mathlib.Core.Path.{◌≡◌}
use Prim.Native.Nat.{ℕ, ◌-◌, ◌<◌, ◌≤◌}
use Rattle.contacts.specs.Table.{slot, used}
use Rattle.contact_order.specs.Order.{free_at}
use Rattle.octets.proofs.Searching.{none_yet, none_more, found, not_found}
use Rattle.contact_order.proofs.Tests.{free-yes, free-no}
use Rattle.contact_order.proofs.free_at.Goals as goal

pub loop-i-init : goal.loop-i-init
loop-i-init c = (omega arith, none_yet (λ (j : ℕ). not (used (slot c.args.table.now j))))

pub mark_at-requires : goal.mark_at-requires
mark_at-requires c = omega (arith, c.slots-n.ensures)

pub returns-then-mark_at-eq0 : goal.returns-then-mark_at-eq0
unfolding free_at
returns-then-mark_at-eq0 c = found (λ (j : ℕ). not (used (slot c.args.table.now j))) _ _ _ c.slots-n.ensures c.loop-i-test.true c.loop-i.invariant.1 (free-yes _ _ c.mark_at.ensures c.if-mark_at-eq0.true)

pub loop-i-preserved : goal.loop-i-preserved
loop-i-preserved c = (omega arith, none_more (λ (j : ℕ). not (used (slot c.args.table.now j))) _ c.loop-i.invariant.1 (free-no _ _ c.mark_at.ensures c.if-mark_at-eq0.false))

pub returns : goal.returns
unfolding free_at
returns c = not_found (λ (j : ℕ). not (used (slot c.args.table.now j))) _ _ _ c.slots-n.ensures c.loop-i-test.false c.loop-i.invariant.1
