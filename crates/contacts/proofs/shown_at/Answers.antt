-- `shown_at` reads bytes 0 and 1.
use Rattle.contacts.specs.Table.{slot}
use Rattle.contact_table.proofs.Cuts.{mark-cut, doubt-cut}
use Rattle.contacts.proofs.Shown.{free-hidden, used-shown}
use borrow.Author.Rules.{rules}
use Rattle.contacts.proofs.shown_at.Goals as goal

pub returns-then-table-a-eq0 : goal.returns-then-table-a-eq0
returns-then-table-a-eq0 c = free-hidden (slot c.args.table.now c.args.i) _ (mark-cut c.args.table.now c.args.i) c.if-table-a-eq0.true

pub returns : goal.returns
returns c = used-shown (slot c.args.table.now c.args.i) _ _ (mark-cut c.args.table.now c.args.i) c.if-table-a-eq0.false (doubt-cut c.args.table.now c.args.i)
