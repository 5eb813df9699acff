-- `byte_at`: a byte, or 0 past the end.
use mathlib.Core.Path.{sym, refl}
use native.Mathlib.Omega.{arith}
use lib.ListN.{get_or-eq_default}
use borrow.Author.Rules.{rules}
use Rattle.writer.proofs.byte_at.Goals as goal

pub returns-then-s-at : goal.returns-then-s-at
returns-then-s-at c = (sym (get_or-eq_default c.args.s.now 0 c.if-s-at.true), omega arith)

pub overflow_cast-result : goal.overflow_cast-result
overflow_cast-result c = omega (arith, c.type_inv.s c.args.at)

pub returns : goal.returns
returns c = (refl, omega (arith, c.type_inv.s c.args.at))
