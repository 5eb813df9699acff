-- `key_of` cuts out as many bytes as byte 0 says, which a slot always has.
use native.Mathlib.Omega.{arith}
use Rattle.record_slots.proofs.Laying.{key-cut}
use borrow.Author.Rules.{rules}
use Rattle.record_slots.proofs.key_of.Goals as goal

pub overflow_cast-n : goal.overflow_cast-n
overflow_cast-n c = omega (arith, c.type_inv.s 0)

pub overflow_add-e : goal.overflow_add-e
overflow_add-e c = omega (arith, c.type_inv.s 0)

pub slice_bounds-result-end : goal.slice_bounds-result-end
slice_bounds-result-end c = omega (arith, c.type_inv.s 0, c.requires)

pub returns : goal.returns
returns c = key-cut c.args.s.now
