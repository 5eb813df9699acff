-- `byte`: a byte, or 0 past the end. Assumes nothing.
use mathlib.Core.Path.{sym, refl}
use native.Mathlib.Omega.{arith}
use lib.ListN.{get_or-eq_default}
use borrow.Author.Rules.{rules}
use Rattle.flat_lookup.proofs.byte.Goals as goal

pub returns-then-s-at : goal.returns-then-s-at
returns-then-s-at c = (sym (get_or-eq_default c.args.s.now 0 c.if-s-at.true), omega arith)

pub returns : goal.returns
returns c = (refl, omega (arith, c.type_inv.s c.args.at))
