-- `sha256::add` meets its contract. Each word is the sum of two. Assumes nothing.
use Rattle.std.proofs.Common.{rules}
use Rattle.sha256.specs.Sha256.{plus}
use Rattle.sha256.proofs.add.Goals as goal

pub returns : goal.returns
unfolding plus
returns c = cc
