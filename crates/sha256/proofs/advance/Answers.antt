-- `sha256::advance` meets its contract. A round, and the next word of the schedule in the place of its word. Assumes nothing.
use Rattle.std.proofs.Common.{rules}
use Rattle.sha256.proofs.Schedule.{advance-law}
use Rattle.sha256.proofs.advance.Goals as goal

pub returns : goal.returns
returns c b s = let a = c.args in
    let v = c.round-r in
    let x = c.later_word in
    advance-law b s a.v v.result a.w.now a.k.now a.t a.i x.result c.requires.0 c.requires.1 v.ensures x.ensures
