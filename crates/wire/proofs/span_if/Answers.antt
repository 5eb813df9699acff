-- `span_if` goes by the kind of field.
use borrow.Author.Tests.{eq-eqb, ne_eqb}
use Rattle.wire.specs.Wire.{span_if}
use borrow.Author.Rules.{rules}
use Rattle.wire.proofs.span_if.Goals as goal

pub returns-then-g-number : goal.returns-then-g-number
returns-then-g-number c = unfold span_if in rw (c.in-Bytes.is, eq-eqb _ _ c.if-g-number.true)

pub returns-else-g-number : goal.returns-else-g-number
returns-else-g-number c = unfold span_if in rw (c.in-Bytes.is, ne_eqb _ _ c.if-g-number.false)

pub returns-in-Number : goal.returns-in-Number
returns-in-Number c = unfold span_if in rw c.in-Number.is

pub returns-in-Other : goal.returns-in-Other
returns-in-Other c = unfold span_if in rw c.in-Other.is

pub returns-in-End : goal.returns-in-End
returns-in-End c = unfold span_if in rw c.in-End.is

pub returns-in-Bad : goal.returns-in-Bad
returns-in-Bad c = unfold span_if in rw c.in-Bad.is
