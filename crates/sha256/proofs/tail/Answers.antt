-- `sha256::tail` meets its contract. The last bytes, the one bit and the length, stored in an array of zeros. Assumes nothing.
use Rattle.std.proofs.Common.{◌%◌, length, refl, rules}
use Rattle.sha256.specs.Inner.{last_blocks}
use Rattle.sha256.proofs.Padding.{tail-law}
use Rattle.sha256.proofs.tail.Goals as goal

pub returns : goal.returns
returns c = let m = c.args.src.now in
    rw (c.put_length.ensures, c.last_blocks-end.ensures, c.rest_of-t.ensures)
    (tail-law m (length m % 64) (last_blocks (length m % 64)) refl refl)
