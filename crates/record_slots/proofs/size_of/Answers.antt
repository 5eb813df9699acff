-- `size_of` reads two bytes, the low one first.
use native.Mathlib.Omega.{arith}
use Rattle.record_slots.proofs.Laying.{size_is}
use borrow.Author.Rules.{rules}
use Rattle.record_slots.proofs.size_of.Goals as goal

pub overflow_cast-a : goal.overflow_cast-a
overflow_cast-a c = omega (arith, c.type_inv.s 2)

pub overflow_cast-b : goal.overflow_cast-b
overflow_cast-b c = omega (arith, c.type_inv.s 3)

pub overflow_mul-result : goal.overflow_mul-result
overflow_mul-result c = omega (arith, c.type_inv.s 3)

pub overflow_add-result : goal.overflow_add-result
overflow_add-result c = omega (arith, c.type_inv.s 3, c.type_inv.s 2)

pub returns : goal.returns
returns c = size_is c.args.s.now
