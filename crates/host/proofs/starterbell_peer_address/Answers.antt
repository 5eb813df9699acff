-- `starterbell_peer_address` meets its contract. Assumes nothing.
use Rattle.host_answers.specs.Answers.{part_number, address_numbers}
use mathlib.Core.Path.{ap, ◌∙◌}
use borrow.Author.Rules.{rules}
use Rattle.host.proofs.starterbell_peer_address.Goals as goal

pub returns : goal.returns
returns c = (c.address_answer.ensures.0 ∙ ap part_number c.next_address-f.ensures, c.address_answer.ensures.1 ∙ ap (address_numbers _) c.next_address-f.ensures)
