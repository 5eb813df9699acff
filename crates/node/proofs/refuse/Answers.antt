-- `node::refuse` meets its contract. Assumes nothing.
use Rattle.node.proofs.Receiving.{refused-shut}
use borrow.Author.Rules.{rules}
use Rattle.node.proofs.refuse.Goals as goal

pub returns : goal.returns
returns c = let a = c.args in refused-shut a.conn _ _ a.taken a.r _ c.shut-shut.ensures c.with_framing-c.ensures c.hand_back.ensures
