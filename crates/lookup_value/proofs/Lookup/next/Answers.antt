-- `Lookup::next`: the step on a copy of the bytes. Assumes nothing.
use mathlib.Core.Path.{◌≡◌}
use lib.ListN.{length}
use Rattle.lookup_value.proofs.Giving.{next-gives}
use borrow.Author.Rules.{rules}
use Rattle.lookup_value.proofs.Lookup.next.Goals as goal

pub returns : goal.returns
returns c = let a = c.args in let n : length a.self.bytes ≡ 25256 = search rules in next-gives a.self n _ _ c.next-o.ensures
