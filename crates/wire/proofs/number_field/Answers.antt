-- `number_field`: a varint, if it is well formed.
use mathlib.Core.Path.{sym, ◌∙◌}
use Rattle.wire.specs.Wire.{number_at}
use borrow.Author.Rules.{rules}
use Rattle.wire.proofs.number_field.Goals as goal

pub returns-in-Some : goal.returns-in-Some
returns-in-Some c = unfold number_at in rw (sym c.read_varint.ensures ∙ c.in-Some.is)

pub returns-in-None : goal.returns-in-None
returns-in-None c = unfold number_at in rw (sym c.read_varint.ensures ∙ c.in-None.is)
