-- `positions`: the reader's, or an empty message's.
use mathlib.Core.Path.{sym, ap, ◌∙◌}
use Rattle.parts.specs.Parts.{read_fields, positions_of}
use borrow.Author.Rules.{rules}
use Rattle.parts.proofs.positions.Goals as goal

pub returns-in-Ok : goal.returns-in-Ok
unfolding positions_of
returns-in-Ok c = ap read_fields (sym c.in-Ok.is ∙ c.read.ensures)

pub returns-in-Err : goal.returns-in-Err
unfolding positions_of
returns-in-Err c = ap read_fields (sym c.in-Err.is ∙ c.read.ensures)
