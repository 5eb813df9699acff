-- `with_field` goes by the kind of field.
use mathlib.Core.Path.{◌∙◌}
use borrow.Author.Tests.{eq-eqb, ne_eqb}
use Rattle.message.specs.Inner.{with_field}
use borrow.Author.Rules.{rules}
use Rattle.message.proofs.with_field.Goals as goal

pub returns-then-number-eq-KIND : goal.returns-then-number-eq-KIND
returns-then-number-eq-KIND c = unfold with_field in rw (c.in-Number.is, eq-eqb _ _ c.if-number-eq-KIND.true)

pub returns-in-Bytes : goal.returns-in-Bytes
returns-in-Bytes c = c.with_bytes.ensures ∙ (unfold with_field in rw c.in-Bytes.is)

pub returns-else-number-eq-KIND : goal.returns-else-number-eq-KIND
returns-else-number-eq-KIND c = unfold with_field in rw (c.in-Number.is, ne_eqb _ _ c.if-number-eq-KIND.false)

pub returns-in-Other : goal.returns-in-Other
returns-in-Other c = unfold with_field in rw c.in-Other.is

pub returns-in-End : goal.returns-in-End
returns-in-End c = unfold with_field in rw c.in-End.is

pub returns-in-Bad : goal.returns-in-Bad
returns-in-Bad c = unfold with_field in rw c.in-Bad.is
