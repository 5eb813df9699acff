-- `held_plan`: the same bytes, then the rank.
use Rattle.records.proofs.Writing.{held_same, held-higher, held-lower}
use borrow.Author.Rules.{rules}
use Rattle.records.proofs.held_plan.Goals as goal

pub returns-then-same_bytes : goal.returns-then-same_bytes
returns-then-same_bytes c = held_same c.args.held.now c.args.value.now c.args.at c.same_bytes.ensures c.if-same_bytes.true

pub returns-then-outranks : goal.returns-then-outranks
returns-then-outranks c = held-higher c.args.held.now c.args.value.now c.args.at c.same_bytes.ensures c.if-same_bytes.false c.outranks.ensures c.if-outranks.true

pub returns : goal.returns
returns c = held-lower c.args.held.now c.args.value.now c.args.at c.same_bytes.ensures c.if-same_bytes.false c.outranks.ensures c.if-outranks.false
