-- `put_held`: the record, or nothing.
use mathlib.Core.Path.{sym}
use Rattle.wire_put.proofs.Putting.{put-start, put_is}
use Rattle.writer.proofs.Whole.{piece-yes, piece-no}
use borrow.Author.Rules.{rules}
use Rattle.writer.proofs.put_held.Goals as goal

pub returns-then-held : goal.returns-then-held
returns-then-held c = put_is _ _ _ _ _ _ (sym (piece-yes _ _ _ c.if-held.true)) c.put_record.ensures

pub returns : goal.returns
returns c = put_is _ _ _ _ _ _ (sym (piece-no _ _ _ c.if-held.false)) (put-start _ _)
