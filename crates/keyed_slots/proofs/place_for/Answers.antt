use native.Mathlib.Omega.{arith}
use mathlib.Core.Path.{sym, ap, ◌∙◌}
use mathlib.Core.List.{List}
use Prim.Native.Nat.{ℕ, ◌+◌, ◌-◌, ◌/◌}
use Rattle.octets.specs.Octets.{lower}
use Rattle.keyed_slots.specs.Slots.{key_of}
use Rattle.keyed_slots.proofs.Ordering.{halving, half-low, half_high, halved}
use Rattle.keyed_slots.proofs.place_for.Goals as goal

pub loop-lo-init : goal.loop-lo-init
loop-lo-init c = halving c.args.size c.args.store.now c.args.order.now c.args.held c.args.key.now

pub overflow_sub-mid : goal.overflow_sub-mid
overflow_sub-mid c = omega (arith, c.loop-lo.invariant.order)

pub overflow_add-mid : goal.overflow_add-mid
overflow_add-mid c = omega (arith, c.loop-lo.invariant.within, c.requires.room)

pub bounds-order-mid : goal.bounds-order-mid
bounds-order-mid c = omega (arith, c.loop-lo.invariant.within, c.requires.room)

pub overflow_cast-j : goal.overflow_cast-j
overflow_cast-j c = omega (arith, c.type_inv.order (c.loop-lo.lo + (c.loop-lo.hi - c.loop-lo.lo) / 2))

pub slot_at-requires : goal.slot_at-requires
slot_at-requires c = c.requires.slots (c.loop-lo.lo + (c.loop-lo.hi - c.loop-lo.lo) / 2) (omega (arith, c.loop-lo.invariant.within))

pub key_of-requires : goal.key_of-requires
key_of-requires c = c.slot_at.ensures.1

pub overflow_add-lo : goal.overflow_add-lo
overflow_add-lo c = omega (arith, c.loop-lo.invariant.within, c.requires.room)

pub loop-lo-smaller-then-lower_bytes : goal.loop-lo-smaller-then-lower_bytes
loop-lo-smaller-then-lower_bytes c = omega (arith, c.loop-lo.invariant.order)

pub loop-lo-preserved-then-lower_bytes : goal.loop-lo-preserved-then-lower_bytes
loop-lo-preserved-then-lower_bytes c = half-low c.args.size c.args.store.now c.args.order.now c.args.held c.args.key.now c.requires c.loop-lo.lo c.loop-lo.hi c.loop-lo.invariant (c.loop-lo.lo + (c.loop-lo.hi - c.loop-lo.lo) / 2) (omega arith) (omega arith) (sym (ap (λ (x : List ℕ). lower x c.args.key.now) (c.key_of.ensures ∙ ap key_of c.slot_at.ensures.0)) ∙ sym c.lower_bytes.ensures ∙ c.if-lower_bytes.true)

pub loop-lo-smaller : goal.loop-lo-smaller
loop-lo-smaller c = omega (arith, c.loop-lo.invariant.order)

pub loop-lo-preserved : goal.loop-lo-preserved
loop-lo-preserved c = half_high c.args.size c.args.store.now c.args.order.now c.args.held c.args.key.now c.requires c.loop-lo.lo c.loop-lo.hi c.loop-lo.invariant (c.loop-lo.lo + (c.loop-lo.hi - c.loop-lo.lo) / 2) (omega arith) (omega arith) (sym (ap (λ (x : List ℕ). lower x c.args.key.now) (c.key_of.ensures ∙ ap key_of c.slot_at.ensures.0)) ∙ sym c.lower_bytes.ensures ∙ c.if-lower_bytes.false)

pub returns : goal.returns
returns c = halved c.args.size c.args.store.now c.args.order.now c.args.held c.args.key.now c.loop-lo.lo c.loop-lo.hi c.loop-lo.invariant (omega arith)
