-- `starterbell_put` meets its contract. Assumes nothing.
use Rattle.host_answers.specs.Answers.{put_number}
use mathlib.Core.Path.{ap, ◌∙◌}
use borrow.Author.Rules.{rules}
use Rattle.host.proofs.starterbell_put.Goals as goal

pub returns : goal.returns
returns c = (c.put_answer.ensures ∙ ap put_number c.put-a.ensures.0, c.put-a.ensures.1)
