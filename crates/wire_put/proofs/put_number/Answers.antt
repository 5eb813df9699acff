-- `put_number`: a tag, then the number.
use mathlib.Core.Path.{refl}
use Rattle.wire_put.proofs.Putting.{put-number}
use Rattle.wire_put.proofs.put_number.Goals as goal

pub returns : goal.returns
returns c = put-number _ _ _ _ _ _ _ _ _ refl c.put_varint-next.ensures c.put_varint.ensures
