-- `add` puts slot k where it ranks.
use mathlib.Core.Path.{◌∙◌}
use native.Mathlib.Omega.{arith}
use Rattle.contacts.proofs.Sorting.{held-length, held-count, held-put}
use borrow.Author.Rules.{rules}
use Rattle.contacts.proofs.add.Goals as goal

pub put-requires : goal.put-requires
put-requires c = (omega (arith, c.rank-p.ensures.0, held-count c.requires), held-length c.requires)

pub returns : goal.returns
returns c = c.put.ensures ∙ held-put c.requires c.rank-p.result c.rank-p.ensures.0 c.rank-p.ensures.1
