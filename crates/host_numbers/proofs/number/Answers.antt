-- `number` gives a number, or 0 past the end. Assumes nothing.
use mathlib.Core.Path.{sym}
use lib.ListN.{get_or-eq_default}
use borrow.Author.Rules.{rules}
use Rattle.host_numbers.proofs.number.Goals as goal

pub returns-then-view-at : goal.returns-then-view-at
returns-then-view-at c = sym (get_or-eq_default c.args.view.now 0 c.if-view-at.true)
