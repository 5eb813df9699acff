-- `Lookup::failure`: the step on a copy of the bytes. Assumes nothing.
use mathlib.Core.Path.{◌≡◌}
use lib.ListN.{length}
use Rattle.lookup_value.proofs.Giving.{failure-gives}
use borrow.Author.Rules.{rules}
use Rattle.lookup_value.proofs.Lookup.failure.Goals as goal

pub returns : goal.returns
returns c = let a = c.args in let n : length a.self.bytes ≡ 25256 = search rules in failure-gives a.self n _ _ a.own.now a.ours a.id.now c.failure-o.ensures
