-- `value_or` goes by the kind of field.
use borrow.Author.Tests.{eq-eqb, ne_eqb}
use Rattle.octets.specs.Search.{last_of}
use Rattle.wire.specs.Wire.{numbers}
use borrow.Author.Rules.{rules}
use Rattle.wire.proofs.value_or.Goals as goal

pub returns-then-g-number : goal.returns-then-g-number
returns-then-g-number c = unfold numbers last_of in rw (c.in-Number.is, eq-eqb _ _ c.if-g-number.true)

pub returns-else-g-number : goal.returns-else-g-number
returns-else-g-number c = unfold numbers last_of in rw (c.in-Number.is, ne_eqb _ _ c.if-g-number.false)

pub returns-in-Bytes : goal.returns-in-Bytes
returns-in-Bytes c = unfold numbers last_of in rw c.in-Bytes.is

pub returns-in-Other : goal.returns-in-Other
returns-in-Other c = unfold numbers last_of in rw c.in-Other.is

pub returns-in-End : goal.returns-in-End
returns-in-End c = unfold numbers last_of in rw c.in-End.is

pub returns-in-Bad : goal.returns-in-Bad
returns-in-Bad c = unfold numbers last_of in rw c.in-Bad.is
