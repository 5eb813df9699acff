-- `sha256::put_length` meets its contract. Eight stores of the length in bits. Assumes nothing.
use Rattle.std.proofs.Common.{◌*◌, rules}
use Rattle.sha256.proofs.Words.{store-eight}
use Rattle.sha256.proofs.put_length.Goals as goal

pub returns : goal.returns
returns c = let a = c.args in
    cc (store-eight a.out.now a.at (a.len * 8))
