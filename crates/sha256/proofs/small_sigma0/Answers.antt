-- `sha256::small_sigma0` meets its contract. The definition, from the two rotations and the shift. Assumes nothing.
use Rattle.std.proofs.Common.{rules}
use Rattle.sha256.specs.Sha256.{small_sigma0}
use Rattle.sha256.proofs.small_sigma0.Goals as goal

pub returns : goal.returns
unfolding small_sigma0
returns c = cc
