-- `sha256::later_word` meets its contract. The four terms of the sum. Assumes nothing.
use Rattle.std.proofs.Common.{rules}
use Rattle.sha256.proofs.later_word.Goals as goal

pub returns : goal.returns
returns c = cc
