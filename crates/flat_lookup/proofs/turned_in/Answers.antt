-- `turned_in`: a byte other than 0. Assumes nothing.
use mathlib.Core.Path.{ap}
use lib.Dec.{ltb}
use borrow.Author.Rules.{rules}
use Rattle.flat_lookup.proofs.turned_in.Goals as goal

pub returns : goal.returns
returns c = ap (ltb 0) c.number.ensures.0
