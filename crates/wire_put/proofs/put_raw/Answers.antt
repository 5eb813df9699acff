-- `put_raw` copies.
use mathlib.Core.Path.{refl}
use Rattle.wire_put.proofs.Putting.{put-raw}
use Rattle.wire_put.proofs.put_raw.Goals as goal

pub returns : goal.returns
returns c = put-raw _ _ _ _ _ _ c.copy.ensures refl c.past_end.ensures
