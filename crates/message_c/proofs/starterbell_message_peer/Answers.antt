-- `starterbell_message_peer` stores what `walk` gives.
use Rattle.message_c.proofs.Answers.{peer-told}
use borrow.Author.Rules.{rules}
use Rattle.message_c.proofs.starterbell_message_peer.Goals as goal

pub returns : goal.returns
returns c = peer-told _ _ _ c.walk-w.ensures
