-- `sha256::big_sigma0` meets its contract. The definition, from the three rotations. Assumes nothing.
use Rattle.std.proofs.Common.{rules}
use Rattle.sha256.specs.Sha256.{big_sigma0}
use Rattle.sha256.proofs.big_sigma0.Goals as goal

pub returns : goal.returns
unfolding big_sigma0
returns c = cc
