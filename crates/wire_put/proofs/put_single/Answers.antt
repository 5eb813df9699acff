-- `put_single`: nothing for an empty field.
use mathlib.Core.Path.{sym}
use Rattle.wire_put.proofs.Putting.{put-start, put_is, single-empty, single-full}
use Rattle.wire_put.proofs.put_single.Goals as goal

pub returns-then-src-eq0 : goal.returns-then-src-eq0
returns-then-src-eq0 c = put_is _ _ _ _ _ _ (sym (single-empty _ _ c.if-src-eq0.true)) (put-start _ _)

pub returns : goal.returns
returns c = put_is _ _ _ _ _ _ (sym (single-full _ _ c.if-src-eq0.false)) c.put_bytes.ensures
