-- `peer::usable_size` meets its contract. Assumes nothing.
use Rattle.peer.proofs.Lists.{size_none, size-some}
use Rattle.peer.proofs.usable_size.Goals as goal

pub returns-then-n-eq0 : goal.returns-then-n-eq0
returns-then-n-eq0 c = size_none c.args.n c.if-n-eq0.true

pub returns : goal.returns
returns c = size-some c.args.n c.if-n-eq0.false
