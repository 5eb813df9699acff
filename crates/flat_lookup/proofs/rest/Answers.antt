-- `rest`: cut at the end, or at the place. Assumes nothing.
use mathlib.Core.Path.{◌∙◌}
use native.Mathlib.Omega.{arith}
use lib.ListN.{length}
use Rattle.octets.proofs.Parts.{cut-end}
use Rattle.flat_lookup.proofs.Padding.{cut-past}
use borrow.Author.Rules.{rules}
use Rattle.flat_lookup.proofs.rest.Goals as goal

pub returns-then-len-at : goal.returns-then-len-at
returns-then-len-at c = cut-end c.args.s.now (length c.args.s.now) ∙ cut-past c.args.s.now c.args.at (omega arith)

pub returns : goal.returns
returns c = cut-end c.args.s.now c.args.at
