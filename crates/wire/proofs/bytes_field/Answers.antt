-- `bytes_field`: a length, and a part of that size.
use mathlib.Core.Path.{sym, ◌∙◌}
use Rattle.wire.specs.Wire.{bytes_at}
use borrow.Author.Rules.{rules}
use Rattle.wire.proofs.bytes_field.Goals as goal

pub returns-in-Some-part_end : goal.returns-in-Some-part_end
returns-in-Some-part_end c = unfold bytes_at in rw (sym c.read_varint.ensures ∙ c.in-Some.is, sym c.part_end.ensures ∙ c.in-Some-part_end.is)

pub returns-in-None-part_end : goal.returns-in-None-part_end
returns-in-None-part_end c = unfold bytes_at in rw (sym c.read_varint.ensures ∙ c.in-Some.is, sym c.part_end.ensures ∙ c.in-None-part_end.is)

pub returns-in-None : goal.returns-in-None
returns-in-None c = unfold bytes_at in rw (sym c.read_varint.ensures ∙ c.in-None.is)
