-- `byte` reads in bounds; a byte past the end is 0. Assumes nothing.
use mathlib.Core.Path.{sym}
use lib.ListN.{get_or-eq_default}
use borrow.Author.Rules.{rules}
use Rattle.flat.proofs.byte.Goals as goal

pub returns : goal.returns
returns c = sym (get_or-eq_default c.args.s.now 0 c.if-at-s.false)
