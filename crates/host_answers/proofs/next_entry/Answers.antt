-- `next_entry` meets its contract. Assumes nothing.
use Rattle.host_answers.proofs.Handing.{provider-entry, closer-entry}
use borrow.Author.Rules.{rules}
use Rattle.host_answers.proofs.next_entry.Goals as goal

pub returns-then-says_yes : goal.returns-then-says_yes
returns-then-says_yes c = provider-entry _ _ _ _ _ c.says_yes.ensures c.if-says_yes.true c.provider_peer.ensures

pub returns : goal.returns
returns c = closer-entry _ _ _ _ _ c.says_yes.ensures c.if-says_yes.false c.closer_peer.ensures
