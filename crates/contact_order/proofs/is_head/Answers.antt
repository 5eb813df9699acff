-- `contact_order::is_head` meets its contract. Assumes nothing.
use Rattle.contacts.specs.Table.{slot}
use Rattle.contact_order.proofs.Tests.{head-no, head-yes}
use borrow.Author.Rules.{rules}
use Rattle.contact_order.proofs.is_head.Goals as goal

pub returns-then-mark_at-ne1 : goal.returns-then-mark_at-ne1
returns-then-mark_at-ne1 c = head-no c.args.ours.now c.args.b (slot c.args.table.now c.args.i) _ c.mark_at.ensures c.if-mark_at-ne1.true

pub returns : goal.returns
returns c = head-yes c.args.ours.now c.args.b (slot c.args.table.now c.args.i) _ c.mark_at.ensures c.if-mark_at-ne1.false _ c.bucket_at.ensures
