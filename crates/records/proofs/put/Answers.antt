-- `put` tests the form, then offers.
use borrow.Author.Tests.{not-true, not-false}
use Rattle.records.proofs.Putting.{put-out, put-answer, put-after}
use borrow.Author.Rules.{rules}
use Rattle.records.proofs.put.Goals as goal

pub returns-then-not-in_form : goal.returns-then-not-in_form
returns-then-not-in_form c = put-out c.args.store.now c.args.key.now c.args.value.now c.in_form.ensures c.if-not-in_form.true

pub returns : goal.returns
returns c = (put-answer c.args.store.now c.args.key.now c.args.value.now c.in_form.ensures c.if-not-in_form.false c.offer.ensures.0, put-after c.args.store.now c.args.key.now c.args.value.now c.in_form.ensures c.if-not-in_form.false c.offer.ensures.1)
