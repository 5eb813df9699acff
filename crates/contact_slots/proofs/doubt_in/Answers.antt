-- `doubt_in` meets its contract. Assumes nothing.
use Prim.Native.Nat.{ℕ, ◌*◌}
use mathlib.Core.Path.{refl, ap}
use mathlib.Core.List.{List, ◌++◌}
use native.Mathlib.Omega.{arith}
use lib.ListN.{drop}
use borrow.Author.Tests.{not-true, not-false}
use Rattle.contact_slots.specs.Slots.{doubt_in, with_table}
use Rattle.contact_slots.proofs.Laws.{if-enough, if-short, slots-fit, cut-long}
use borrow.Author.Rules.{rules}
use Rattle.contacts.specs.Table.{slot_size}
use Rattle.contact_slots.proofs.doubt_in.Goals as goal

pub returns-then-not-has_slots : goal.returns-then-not-has_slots
unfolding doubt_in with_table
returns-then-not-has_slots c = (if-short c.args.n c.args.room.now _ c.has_slots.ensures _ _ _ c.if-not-has_slots.true refl, if-short c.args.n c.args.room.now _ c.has_slots.ensures _ _ _ c.if-not-has_slots.true refl)

pub overflow_mul-e : goal.overflow_mul-e
overflow_mul-e c = record { fits = omega (arith, slots-fit c.args.n c.args.room.now _ c.has_slots.ensures c.if-not-has_slots.false) }

pub slice_bounds-doubt-end : goal.slice_bounds-doubt-end
slice_bounds-doubt-end c = slots-fit c.args.n c.args.room.now _ c.has_slots.ensures c.if-not-has_slots.false

pub slice_bounds-doubt-end-2 : goal.slice_bounds-doubt-end-2
slice_bounds-doubt-end-2 c = cut-long _ _ (slots-fit c.args.n c.args.room.now _ c.has_slots.ensures c.if-not-has_slots.false)

pub returns : goal.returns
unfolding doubt_in with_table
returns c = (if-enough c.args.n c.args.room.now _ c.has_slots.ensures _ _ _ c.if-not-has_slots.false c.doubt.ensures.0, if-enough c.args.n c.args.room.now _ c.has_slots.ensures _ _ _ c.if-not-has_slots.false (ap (λ (s : List ℕ). s ++ drop (c.args.n * slot_size) c.args.room.now) c.doubt.ensures.1))
