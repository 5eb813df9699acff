-- `sha256::round` meets its contract. T1, T2 and the eight new variables. Assumes nothing.
use Rattle.std.proofs.Common.{rules}
use Rattle.sha256.specs.Sha256.{turn, t1, t2}
use Rattle.sha256.proofs.round.Goals as goal

pub returns : goal.returns
unfolding turn t1 t2
returns c = cc
