-- `starterbell_read` meets its contract. Assumes nothing.
use Rattle.host_answers.specs.Answers.{read_number, read_numbers}
use mathlib.Core.Path.{ap, ◌∙◌}
use borrow.Author.Rules.{rules}
use Rattle.host.proofs.starterbell_read.Goals as goal

pub returns : goal.returns
returns c = (c.read_answer.ensures.0 ∙ ap read_number c.read-r.ensures, c.read_answer.ensures.1 ∙ ap (read_numbers _) c.read-r.ensures)
