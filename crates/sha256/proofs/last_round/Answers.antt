-- `sha256::last_round` meets its contract. A round that leaves the words as they are. Assumes nothing.
use Rattle.std.proofs.Common.{rules}
use Rattle.sha256.proofs.Schedule.{last-law}
use Rattle.sha256.proofs.last_round.Goals as goal

pub returns : goal.returns
returns c b s = let a = c.args in
    last-law b s a.v c.round.result a.w.now a.k.now a.i c.requires.0 c.requires.1 c.round.ensures
