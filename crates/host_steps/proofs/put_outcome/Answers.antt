-- `put_outcome` meets its contract. Assumes nothing.
use Rattle.host_steps.proofs.Handing.{outcome-silent, outcome-written}
use borrow.Author.Rules.{rules}
use Rattle.host_steps.proofs.put_outcome.Goals as goal

pub returns-then-is_refused : goal.returns-then-is_refused
returns-then-is_refused c = outcome-silent c.args.o _ c.is_refused.ensures c.if-is_refused.true _

pub returns : goal.returns
returns c = outcome-written c.args.o _ c.is_refused.ensures c.if-is_refused.false c.args.out.now _ _ _ c.step_first.ensures c.put_numbers.ensures c.put_numbers-2.ensures
