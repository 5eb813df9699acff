-- `sha256::small_sigma1` meets its contract. The definition, from the two rotations and the shift. Assumes nothing.
use Rattle.std.proofs.Common.{rules}
use Rattle.sha256.specs.Sha256.{small_sigma1}
use Rattle.sha256.proofs.small_sigma1.Goals as goal

pub returns : goal.returns
unfolding small_sigma1
returns c = cc
