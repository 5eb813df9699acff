use native.Mathlib.Omega.{arith}
use mathlib.Core.Bool.{false}
use mathlib.Core.Path.{◌≡◌, sym, ◌∙◌}
use Prim.Native.Nat.{ℕ, ◌-◌, ◌<◌, ◌≤◌}
use Rattle.contacts.specs.Table.{slot}
use Rattle.contact_order.specs.Order.{is_at, held_at}
use Rattle.octets.proofs.Searching.{none_yet, none_more, found, not_found}
use Rattle.contact_order.proofs.held_at.Goals as goal

pub loop-i-init : goal.loop-i-init
loop-i-init c = (omega arith, none_yet (λ (j : ℕ). is_at c.args.p.now (slot c.args.table.now j)))

pub is_at-requires : goal.is_at-requires
is_at-requires c = (omega (arith, c.slots-n.ensures), c.word-first.ensures)

pub returns-then-is_at : goal.returns-then-is_at
unfolding held_at
returns-then-is_at c = found (λ (j : ℕ). is_at c.args.p.now (slot c.args.table.now j)) _ _ _ c.slots-n.ensures c.loop-i-test.true c.loop-i.invariant.1 (sym c.is_at.ensures ∙ c.if-is_at.true)

pub loop-i-preserved : goal.loop-i-preserved
loop-i-preserved c = (omega arith, none_more (λ (j : ℕ). is_at c.args.p.now (slot c.args.table.now j)) _ c.loop-i.invariant.1 (sym c.is_at.ensures ∙ c.if-is_at.false))

pub returns : goal.returns
unfolding held_at
returns c = not_found (λ (j : ℕ). is_at c.args.p.now (slot c.args.table.now j)) _ _ _ c.slots-n.ensures c.loop-i-test.false c.loop-i.invariant.1
