use native.Mathlib.Omega.{arith}
use mathlib.Core.Bool.{false}
use mathlib.Core.Path.{◌≡◌, sym, ◌∙◌}
use Prim.Native.Nat.{ℕ, ◌-◌, ◌<◌, ◌≤◌}
use Rattle.contacts.specs.Table.{slot}
use Rattle.contact_order.specs.Order.{is_head, head_at}
use Rattle.octets.proofs.Searching.{none_yet, none_more, found, not_found}
use Rattle.contact_order.proofs.head_at.Goals as goal

pub loop-i-init : goal.loop-i-init
loop-i-init c = (omega arith, none_yet (λ (j : ℕ). is_head c.args.ours.now c.args.b (slot c.args.table.now j)))

pub is_head-requires : goal.is_head-requires
is_head-requires c = omega (arith, c.slots-n.ensures)

pub returns-then-is_head : goal.returns-then-is_head
unfolding head_at
returns-then-is_head c = found (λ (j : ℕ). is_head c.args.ours.now c.args.b (slot c.args.table.now j)) _ _ _ c.slots-n.ensures c.loop-i-test.true c.loop-i.invariant.1 (sym c.is_head.ensures ∙ c.if-is_head.true)

pub loop-i-preserved : goal.loop-i-preserved
loop-i-preserved c = (omega arith, none_more (λ (j : ℕ). is_head c.args.ours.now c.args.b (slot c.args.table.now j)) _ c.loop-i.invariant.1 (sym c.is_head.ensures ∙ c.if-is_head.false))

pub returns : goal.returns
unfolding head_at
returns c = not_found (λ (j : ℕ). is_head c.args.ours.now c.args.b (slot c.args.table.now j)) _ _ _ c.slots-n.ensures c.loop-i-test.false c.loop-i.invariant.1
