-- `contact_order::higher` meets its contract. Assumes nothing.
use mathlib.Core.Path.{refl, sym, ◌∙◌}
use Rattle.contacts.specs.Table.{slot}
use Rattle.contact_order.proofs.Tests.{higher-low, higher-yes, higher-no}
use Rattle.contact_order.proofs.FirstWord.{slot-far}
use borrow.Author.Rules.{rules}
use Rattle.contact_order.proofs.higher.Goals as goal

pub returns-then-m-top : goal.returns-then-m-top
returns-then-m-top c = higher-low c.args.ours.now c.args.b (slot c.args.table.now c.args.i) _ c.mark_at-m.ensures c.args.top c.if-m-top.true

pub returns-then-sifted : goal.returns-then-sifted
returns-then-sifted c = higher-no c.args.ours.now c.args.b (slot c.args.table.now c.args.i) _ c.mark_at-m.ensures c.args.top _ refl (slot-far c.args.table.now c.args.ours.now c.args.i c.args.b c.requires.0 (λ k. (c.type_inv.table k).fits) (λ k. (c.type_inv.ours k).fits) c.args.sieve c.requires.1 (sym c.sifted.ensures ∙ c.if-sifted.true))

pub returns-then-bucket_at-b : goal.returns-then-bucket_at-b
returns-then-bucket_at-b c = higher-yes c.args.ours.now c.args.b (slot c.args.table.now c.args.i) _ c.mark_at-m.ensures c.args.top c.if-m-top.false _ c.bucket_at.ensures c.if-bucket_at-b.true

pub returns : goal.returns
returns c = higher-no c.args.ours.now c.args.b (slot c.args.table.now c.args.i) _ c.mark_at-m.ensures c.args.top _ c.bucket_at.ensures c.if-bucket_at-b.false
