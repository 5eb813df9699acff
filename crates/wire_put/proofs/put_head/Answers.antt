-- `put_head`: a tag, then a length.
use Rattle.wire_put.proofs.Putting.{put-tag}
use Rattle.wire_put.proofs.put_head.Goals as goal

pub returns : goal.returns
returns c = put-tag _ _ _ _ _ _ _ _ c.put_varint-next.ensures c.put_varint.ensures
