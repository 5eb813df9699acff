-- `sha256::big_sigma1` meets its contract. The definition, from the three rotations. Assumes nothing.
use Rattle.std.proofs.Common.{rules}
use Rattle.sha256.specs.Sha256.{big_sigma1}
use Rattle.sha256.proofs.big_sigma1.Goals as goal

pub returns : goal.returns
unfolding big_sigma1
returns c = cc
