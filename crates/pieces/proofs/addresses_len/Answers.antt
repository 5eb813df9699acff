-- `addresses_len`: four addresses, or fewer.
use Rattle.pieces.proofs.Pieces.{four-sum}
use borrow.Author.Rules.{rules}
use Rattle.pieces.proofs.addresses_len.Goals as goal

pub returns : goal.returns
returns c = four-sum _ _ _ _ _ _ _ _ _ c.address_len.ensures c.address_len-2.ensures c.address_len-3.ensures c.address_len-4.ensures
