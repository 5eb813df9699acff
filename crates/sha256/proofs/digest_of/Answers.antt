-- `sha256::digest_of` meets its contract. Eight words stored one after the other. Assumes nothing.
use Rattle.std.proofs.Common.{rules}
use Rattle.octets.specs.Octets.{big_endian}
use Rattle.sha256.specs.Sha256.{digest}
use Rattle.sha256.proofs.digest_of.Goals as goal

pub returns : goal.returns
unfolding digest big_endian
returns c = rw (c.put_word-8.ensures, c.put_word-7.ensures, c.put_word-6.ensures, c.put_word-5.ensures, c.put_word-4.ensures, c.put_word-3.ensures, c.put_word-2.ensures, c.put_word.ensures)
