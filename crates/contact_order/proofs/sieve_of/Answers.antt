-- `contact_order::sieve_of` makes the sieve of a bucket. Assumes nothing.
use Rattle.contact_order.proofs.FirstWord.{sieve-none, sieve-far, sieve-near}
use borrow.Author.Rules.{rules}
use Rattle.contact_order.proofs.sieve_of.Goals as goal

pub returns-then-ours-ne-PLACE : goal.returns-then-ours-ne-PLACE
returns-then-ours-ne-PLACE c = sieve-none c.args.ours.now c.args.b _ c.word-word.ensures

pub returns-then-b-gt64 : goal.returns-then-b-gt64
returns-then-b-gt64 c = sieve-far c.args.ours.now c.args.b _ c.word-word.ensures c.if-ours-ne-PLACE.false c.if-b-gt64.true

pub returns : goal.returns
returns c = sieve-near c.args.ours.now c.args.b _ c.word-word.ensures c.if-ours-ne-PLACE.false c.if-b-gt64.false
