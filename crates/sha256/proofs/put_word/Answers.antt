-- `sha256::put_word` meets its contract. Four stores of a word. Assumes nothing.
use Rattle.std.proofs.Common.{rules}
use Rattle.sha256.proofs.Words.{store-four}
use Rattle.sha256.proofs.put_word.Goals as goal

pub returns : goal.returns
returns c = let a = c.args in
    cc (store-four a.out.now a.at a.x)
