-- `content` goes by field number and wire type.
use mathlib.Core.Path.{◌∙◌}
use native.Mathlib.Omega.{arith}
use Rattle.wire.proofs.Reading.{content-none, content-0, content-1, content-2, content-5, content-other}
use borrow.Author.Rules.{rules}
use Rattle.wire.proofs.content.Goals as goal

pub returns-then-number-eq0 : goal.returns-then-number-eq0
returns-then-number-eq0 c = content-none _ _ _ _ c.if-number-eq0.true

pub returns-in-0 : goal.returns-in-0
returns-in-0 c = c.number_field.ensures ∙ content-0 _ _ _ _ c.if-number-eq0.false (omega (arith, c.in-0.is))

pub returns-in-1 : goal.returns-in-1
returns-in-1 c = c.fixed_field.ensures ∙ content-1 _ _ _ _ c.if-number-eq0.false (omega (arith, c.in-1.is))

pub returns-in-2 : goal.returns-in-2
returns-in-2 c = c.bytes_field.ensures ∙ content-2 _ _ _ _ c.if-number-eq0.false (omega (arith, c.in-2.is))

pub returns-in-5 : goal.returns-in-5
returns-in-5 c = c.fixed_field-in-5.ensures ∙ content-5 _ _ _ _ c.if-number-eq0.false (omega (arith, c.in-5.is))

pub returns-in_default : goal.returns-in_default
returns-in_default c = content-other _ _ _ _ c.if-number-eq0.false (λ e. omega (arith, c.in_default.in_default-own.rest)) (λ e. omega (arith, c.in_default.in_default-own.rest)) (λ e. omega (arith, c.in_default.in_default-own.rest)) (λ e. omega (arith, c.in_default.in_default-own.rest))
