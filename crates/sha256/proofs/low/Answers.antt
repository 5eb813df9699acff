-- `sha256::low` meets its contract. A mask of eight bits is the remainder modulo 256. Assumes nothing.
use lib.Bits.{mask_lt, and_mask}
use Rattle.sha256.proofs.low.Goals as goal

pub overflow_cast-result : goal.overflow_cast-result
overflow_cast-result c = record { fits = mask_lt c.args.x 8 }

pub returns : goal.returns
returns c = and_mask c.args.x 8
