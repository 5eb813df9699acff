-- `keep` leaves out what is no nearer than the last of twenty.
use mathlib.Core.Path.{sym, ◌∙◌}
use native.Mathlib.Omega.{arith}
use Rattle.contacts.proofs.Sorting.{held_below, held_more, held-full, held-far}
use borrow.Author.Rules.{rules}
use Rattle.contacts.proofs.keep.Goals as goal

pub returns-then-n-lt-MOST_NEAR : goal.returns-then-n-lt-MOST_NEAR
returns-then-n-lt-MOST_NEAR c = (held_more c.requires (search rules), c.add.ensures)

pub farther-requires : goal.farther-requires
farther-requires c = (c.requires.long, c.requires.whole, omega (arith, c.requires.whole, held_below c.requires 19 (omega arith)))

pub returns-then-farther : goal.returns-then-farther
returns-then-farther c = (held-full c.requires (search rules), held-far c.requires (search rules) (c.farther.ensures c.if-farther.true))

pub closer-requires : goal.closer-requires
closer-requires c = (c.requires.long, c.requires.whole, omega (arith, c.requires.whole, held_below c.requires 19 (omega arith)))

pub returns-then-closer : goal.returns-then-closer
returns-then-closer c = (held-full c.requires (search rules), c.add-then-closer.ensures)

pub returns-else-closer : goal.returns-else-closer
returns-else-closer c = (held-full c.requires (search rules), held-far c.requires (search rules) (sym c.closer.ensures ∙ c.if-closer.false))
