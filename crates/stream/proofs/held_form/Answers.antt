-- `held_form` tests the top bits that the form asks for. Assumes nothing.
use mathlib.Core.Path.{sym, ap}
use Rattle.stream.specs.Stream.{held_form}
use Rattle.stream.proofs.Steps.{two-low, two-high}
use borrow.Author.Rules.{rules}
use Rattle.stream.proofs.held_form.Goals as goal

pub returns-then-a-lt128 : goal.returns-then-a-lt128
returns-then-a-lt128 c = two-low _ _ _ c.in-Two.is c.if-a-lt128.true

pub returns-in-One : goal.returns-in-One
returns-in-One c = sym (ap held_form c.in-One.is)

pub returns-else-a-lt128 : goal.returns-else-a-lt128
returns-else-a-lt128 c = two-high _ _ _ c.in-Two.is c.if-a-lt128.false
