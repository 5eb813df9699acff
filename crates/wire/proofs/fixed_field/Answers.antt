-- `fixed_field`: a part of that size, if it is within the string.
use mathlib.Core.Path.{sym, ◌∙◌}
use Rattle.wire.specs.Wire.{fixed_at}
use borrow.Author.Rules.{rules}
use Rattle.wire.proofs.fixed_field.Goals as goal

pub returns-in-Some : goal.returns-in-Some
returns-in-Some c = unfold fixed_at in rw (sym c.part_end.ensures ∙ c.in-Some.is)

pub returns-in-None : goal.returns-in-None
returns-in-None c = unfold fixed_at in rw (sym c.part_end.ensures ∙ c.in-None.is)
