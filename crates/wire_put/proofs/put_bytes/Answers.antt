-- `put_bytes`: tag and length, then the bytes.
use Rattle.wire_put.proofs.Putting.{put-bytes}
use Rattle.wire_put.proofs.put_bytes.Goals as goal

pub returns : goal.returns
returns c = put-bytes _ _ _ _ _ _ _ _ c.put_head-next.ensures c.put_raw.ensures
