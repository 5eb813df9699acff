-- `read_field`: a tag, and what follows it.
use mathlib.Core.Path.{sym, ◌∙◌}
use native.Mathlib.Omega.{arith}
use Rattle.wire.proofs.Reading.{field_end, field-bad, field-big, field-long, field-good}
use borrow.Author.Rules.{rules}
use Rattle.wire.proofs.read_field.Goals as goal

pub returns-then-s-at : goal.returns-then-s-at
returns-then-s-at c = field_end _ _ c.if-s-at.true

pub returns-then-at-next : goal.returns-then-at-next
returns-then-at-next c = field-long _ _ _ _ (omega arith) (sym c.read_varint.ensures ∙ c.in-Some.is) (omega arith)

pub returns-then-tag-ge4294967296 : goal.returns-then-tag-ge4294967296
returns-then-tag-ge4294967296 c = field-big _ _ _ _ (omega arith) (sym c.read_varint.ensures ∙ c.in-Some.is) (omega arith) (omega arith)

pub returns-else-tag-ge4294967296 : goal.returns-else-tag-ge4294967296
returns-else-tag-ge4294967296 c = c.content.ensures ∙ field-good _ _ _ _ (omega arith) (sym c.read_varint.ensures ∙ c.in-Some.is) (omega arith) (omega arith)

pub returns-in-None : goal.returns-in-None
returns-in-None c = field-bad _ _ (omega arith) (sym c.read_varint.ensures ∙ c.in-None.is)
