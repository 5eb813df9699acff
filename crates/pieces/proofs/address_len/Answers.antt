-- `address_len`: the address of place k as a field, or nothing.
use native.Mathlib.Omega.{arith}
use Rattle.pieces.proofs.Pieces.{over-short, nth-size, nth-size-none}
use Rattle.pieces.proofs.address_len.Goals as goal

pub returns-then-n-k : goal.returns-then-n-k
returns-then-n-k c = nth-size-none _ _ _ c.if-n-k.true

pub field_len-requires : goal.field_len-requires
field_len-requires c = omega (arith, over-short _ _ _ c.requires (omega arith))

pub returns : goal.returns
returns c = nth-size _ _ _ c.requires (omega arith) _ c.field_len.ensures
