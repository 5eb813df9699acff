-- `contact_order::lower` meets its contract. Assumes nothing.
use mathlib.Core.Path.{refl, sym, ◌∙◌}
use native.Mathlib.Omega.{arith}
use Rattle.contacts.specs.Table.{slots_of}
use Rattle.contact_order.proofs.Closing.{lower-low, lower-far, lower-on}
use Rattle.contact_order.proofs.FirstWord.{slot-far}
use borrow.Author.Rules.{rules}
use Rattle.contact_order.proofs.lower.Goals as goal

pub returns-then-k-m : goal.returns-then-k-m
returns-then-k-m c = lower-low c.args.table.now c.args.i c.requires.0 c.args.ours.now c.args.b c.args.m _ c.mark_at-k.ensures c.if-k-m.true

pub returns-then-sifted : goal.returns-then-sifted
returns-then-sifted c = lower-far c.args.table.now c.args.i c.requires.0 c.args.ours.now c.args.b c.args.m _ c.mark_at-k.ensures _ refl (slot-far c.args.table.now c.args.ours.now c.args.i c.args.b c.requires.0 (λ k. (c.slice_known-1.given k).fits) (λ k. (c.type_inv.ours k).fits) c.args.sieve c.requires.1 (sym c.sifted.ensures ∙ c.if-sifted.true))

pub returns-then-bucket_at-b : goal.returns-then-bucket_at-b
returns-then-bucket_at-b c = lower-far c.args.table.now c.args.i c.requires.0 c.args.ours.now c.args.b c.args.m _ c.mark_at-k.ensures _ c.bucket_at.ensures c.if-bucket_at-b.true

pub overflow_sub-table : goal.overflow_sub-table
unfolding slots_of
overflow_sub-table c = search rules

pub overflow_mul-table : goal.overflow_mul-table
unfolding slots_of
overflow_mul-table c = omega arith

pub bounds-table-i : goal.bounds-table-i
unfolding slots_of
bounds-table-i c = omega arith

pub returns : goal.returns
returns c = lower-on c.args.table.now c.args.i c.requires.0 c.args.ours.now c.args.b c.args.m _ c.mark_at-k.ensures c.if-k-m.false _ c.bucket_at.ensures c.if-bucket_at-b.false
