-- `next_address` meets its contract. Assumes nothing.
use Rattle.host_answers.proofs.Handing.{address-next}
use borrow.Author.Rules.{rules}
use Rattle.host_answers.proofs.next_address.Goals as goal

pub returns : goal.returns
returns c = address-next _ _ _ _ _ _ c.later-at.ensures c.peer_address.ensures
