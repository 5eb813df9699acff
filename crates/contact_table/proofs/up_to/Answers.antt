-- `up_to` cuts where s ends, or where n bytes end.
use mathlib.Core.Path.{◌∙◌}
use native.Mathlib.Omega.{arith}
use lib.ListN.{length}
use Rattle.octets.proofs.Parts.{cut-end, cut-none, cut-few, cut-whole}
use borrow.Author.Rules.{rules}
use Rattle.contact_table.proofs.up_to.Goals as goal

pub returns-then-len-a : goal.returns-then-len-a
returns-then-len-a c = cut-end c.args.s.now (length c.args.s.now) ∙ cut-none c.args.s.now c.args.a c.args.n (omega arith)

pub returns-then-len-a-2 : goal.returns-then-len-a-2
returns-then-len-a-2 c = cut-end c.args.s.now c.args.a ∙ cut-few c.args.s.now c.args.a c.args.n (omega arith)

pub returns : goal.returns
returns c = cut-whole c.args.s.now c.args.a c.args.n
