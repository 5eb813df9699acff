-- `whole_word` is the number of its eight bytes.
use native.Mathlib.Omega.{arith}
use Rattle.octets.proofs.Numbers.{eight-at}
use Rattle.octets.proofs.whole_word.Goals as goal

pub returns : goal.returns
returns c = omega (arith, c.from_be_bytes.ensures, eight-at c.args.s.now c.args.at c.requires)
