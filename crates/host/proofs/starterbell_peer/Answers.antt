-- `starterbell_peer` meets its contract. Assumes nothing.
use Rattle.host_answers.specs.Answers.{part_number, peer_numbers}
use mathlib.Core.Path.{ap, ◌∙◌}
use borrow.Author.Rules.{rules}
use Rattle.host.proofs.starterbell_peer.Goals as goal

pub returns : goal.returns
returns c = (c.peer_answer.ensures.0 ∙ ap part_number c.next_entry-f.ensures, c.peer_answer.ensures.1 ∙ ap (peer_numbers _ _) c.next_entry-f.ensures)
