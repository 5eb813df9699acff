-- `peer::tidied` meets its contract. Assumes nothing.
use Rattle.peer.proofs.Tidy.{tidy-made}
use borrow.Author.Rules.{rules}
use Rattle.peer.proofs.tidied.Goals as goal

pub returns : goal.returns
returns c = tidy-made c.args.p _ _ _ c.keep_usable-count.ensures
