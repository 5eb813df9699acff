-- `put_record`: head, key and value, or nothing.
use mathlib.Core.Path.{sym, ◌∙◌}
use Rattle.wire_put.proofs.Putting.{put-start, put_is}
use Rattle.pieces.proofs.Pieces.{record-put, record-none}
use borrow.Author.Rules.{rules}
use Rattle.pieces.proofs.put_record.Goals as goal

pub record_body_len-n-requires : goal.record_body_len-n-requires
record_body_len-n-requires c = sym c.record_fits.ensures ∙ c.if-record_fits.true

pub returns-then-record_fits : goal.returns-then-record_fits
returns-then-record_fits c = record-put _ _ (sym c.record_fits.ensures ∙ c.if-record_fits.true) _ _ _ c.record_body_len-n.ensures _ _ _ _ _ _ c.put_head-a.ensures c.put_single-b.ensures c.put_single.ensures

pub returns : goal.returns
returns c = put_is _ _ _ _ _ _ (sym (record-none _ _ (sym c.record_fits.ensures ∙ c.if-record_fits.false))) (put-start _ _)
