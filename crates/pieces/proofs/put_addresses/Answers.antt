-- `put_addresses`: four addresses, or fewer.
use Rattle.pieces.proofs.Pieces.{four-put}
use borrow.Author.Rules.{rules}
use Rattle.pieces.proofs.put_addresses.Goals as goal

pub returns : goal.returns
returns c = four-put _ _ _ _ _ _ _ _ _ _ _ _ _ _ _ c.put_address-q.ensures c.put_address-r.ensures c.put_address-s.ensures c.put_address.ensures
