-- `starterbell_message_peer_address` hands over what `peer_address` gives.
use Rattle.message_c.proofs.Answers.{found-there}
use borrow.Author.Rules.{rules}
use Rattle.message_c.proofs.starterbell_message_peer_address.Goals as goal

pub returns : goal.returns
returns c = found-there _ _ _ _ _ c.peer_address.ensures c.found.ensures
