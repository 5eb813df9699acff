-- `peer::size_at` meets its contract. Assumes nothing.
use native.Mathlib.Omega.{arith}
use Prim.Native.Nat.{◌+◌}
use borrow.Author.Rules.{rules}
use Rattle.peer.proofs.Lists.{size-read}
use Rattle.peer.proofs.size_at.Goals as goal

pub overflow_cast-low : goal.overflow_cast-low
overflow_cast-low c = omega (arith, c.type_inv.list c.args.at)

pub overflow_cast-high : goal.overflow_cast-high
overflow_cast-high c = omega (arith, c.type_inv.list (c.args.at + 1))

pub overflow_mul-result : goal.overflow_mul-result
overflow_mul-result c = omega (arith, c.type_inv.list (c.args.at + 1))

pub overflow_add-result : goal.overflow_add-result
overflow_add-result c = omega (arith, c.type_inv.list (c.args.at + 1), c.type_inv.list c.args.at)

pub returns : goal.returns
returns c = (size-read c.args.list.now c.args.at, omega (arith, c.type_inv.list (c.args.at + 1), c.type_inv.list c.args.at))
