-- `starterbell_find` meets its contract. Assumes nothing.
use Rattle.host_answers.specs.Answers.{find_number, find_numbers}
use mathlib.Core.Path.{ap, ◌∙◌}
use borrow.Author.Rules.{rules}
use Rattle.host.proofs.starterbell_find.Goals as goal

pub returns : goal.returns
returns c = (c.find_answer.ensures.0 ∙ ap find_number c.find-f.ensures, c.find_answer.ensures.1 ∙ ap (find_numbers _) c.find-f.ensures)
