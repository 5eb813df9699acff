-- `starterbell_message_closer_peer` hands over what `closer_peer` gives.
use Rattle.message_c.proofs.Answers.{found-there}
use borrow.Author.Rules.{rules}
use Rattle.message_c.proofs.starterbell_message_closer_peer.Goals as goal

pub returns : goal.returns
returns c = found-there _ _ _ _ _ c.closer_peer.ensures c.found.ensures
