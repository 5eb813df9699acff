-- `begin`: the prefix and the type.
use Rattle.replies.proofs.Whole.{begin-put}
use borrow.Author.Rules.{rules}
use Rattle.replies.proofs.begin.Goals as goal

pub returns : goal.returns
returns c = begin-put _ _ _ _ _ _ _ c.put_varint-a.ensures c.put_number.ensures
