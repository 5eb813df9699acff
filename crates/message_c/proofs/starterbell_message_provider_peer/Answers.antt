-- `starterbell_message_provider_peer` hands over what `provider_peer` gives.
use Rattle.message_c.proofs.Answers.{found-there}
use borrow.Author.Rules.{rules}
use Rattle.message_c.proofs.starterbell_message_provider_peer.Goals as goal

pub returns : goal.returns
returns c = found-there _ _ _ _ _ c.provider_peer.ensures c.found.ensures
