-- `field_len`: a tag, a length, and the bytes.
use Prim.Native.Nat.{◌+◌, ◌*◌}
use native.Mathlib.Omega.{arith}
use Rattle.wire_put.proofs.Digits.{minimal-three}
use Rattle.pieces.proofs.Pieces.{field-sum}
use borrow.Author.Rules.{rules}
use Rattle.pieces.proofs.field_len.Goals as goal

pub overflow_add-result : goal.overflow_add-result
overflow_add-result c = omega (arith, c.varint_len.ensures, c.varint_len-2.ensures, minimal-three (c.args.field * 8 + 2) (omega arith), minimal-three c.args.n (omega arith))

pub overflow_add-result-2 : goal.overflow_add-result-2
overflow_add-result-2 c = omega (arith, c.varint_len.ensures, c.varint_len-2.ensures, minimal-three (c.args.field * 8 + 2) (omega arith), minimal-three c.args.n (omega arith))

pub returns : goal.returns
returns c = field-sum _ _ _ _ c.varint_len.ensures c.varint_len-2.ensures
