-- `find` tests the form, then looks.
use borrow.Author.Tests.{not-true, not-false}
use Rattle.records.proofs.Putting.{find-out, find-in}
use borrow.Author.Rules.{rules}
use Rattle.records.proofs.find.Goals as goal

pub returns : goal.returns
returns c = find-out c.args.store.now c.args.key.now c.in_form.ensures c.if-in_form.false

pub returns-then-in_form : goal.returns-then-in_form
returns-then-in_form c = find-in c.args.store.now c.args.key.now c.in_form.ensures c.if-in_form.true c.look.ensures
