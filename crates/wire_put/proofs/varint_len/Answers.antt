-- `varint_len` counts seven bits to a byte.
use Rattle.wire_put.proofs.Digits.{counted}
use Rattle.wire_put.proofs.varint_len.Goals as goal

pub returns : goal.returns
returns c = counted c.args.v c.max.result c.ilog2.result c.max.ensures c.ilog2.ensures.power_le c.ilog2.ensures.next_power_gt c.ilog2.ensures.bound
