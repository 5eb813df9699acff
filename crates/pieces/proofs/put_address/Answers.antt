-- `put_address`: the address of place k as a field, or nothing.
use mathlib.Core.Path.{sym}
use native.Mathlib.Omega.{arith}
use Rattle.wire_put.proofs.Putting.{put-start, put_is}
use Rattle.pieces.proofs.Pieces.{nth-none, nth-some}
use borrow.Author.Rules.{rules}
use Rattle.pieces.proofs.put_address.Goals as goal

pub returns-then-n-k : goal.returns-then-n-k
returns-then-n-k c = put_is _ _ _ _ _ _ (sym (nth-none _ _ _ c.if-n-k.true)) (put-start _ _)

pub returns : goal.returns
returns c = put_is _ _ _ _ _ _ (sym (nth-some _ _ _ (omega arith))) c.put_bytes.ensures
