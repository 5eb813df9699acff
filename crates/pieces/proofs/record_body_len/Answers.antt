-- `record_body_len`: the key's field and the value's.
use native.Mathlib.Omega.{arith}
use Rattle.pieces.proofs.Pieces.{record-key-short, record-value-short, record-sum}
use Rattle.pieces.proofs.record_body_len.Goals as goal

pub single_len-requires : goal.single_len-requires
single_len-requires c = (omega arith, omega (arith, record-key-short _ _ c.requires))

pub single_len-requires-2 : goal.single_len-requires-2
single_len-requires-2 c = (omega arith, record-value-short _ _ c.requires)

pub overflow_add-result : goal.overflow_add-result
overflow_add-result c = omega (arith, c.single_len.ensures.1, c.single_len-2.ensures.1, record-key-short _ _ c.requires, record-value-short _ _ c.requires)

pub returns : goal.returns
returns c = record-sum _ _ _ _ c.single_len.ensures.0 c.single_len-2.ensures.0
