-- `record_key_bytes`: cut out of a view; none of another.
use Rattle.parts.proofs.Own.{record-key-inside, record-key-cut, no-record-key}
use borrow.Author.Rules.{rules}
use Rattle.parts.proofs.record_key_bytes.Goals as goal

pub cut_out-requires : goal.cut_out-requires
cut_out-requires c = record-key-inside _ _ _ c.is_view.ensures c.if-is_view.true

pub returns-then-is_view : goal.returns-then-is_view
returns-then-is_view c = record-key-cut _ _ _ c.is_view.ensures _ c.if-is_view.true c.cut_out.ensures

pub returns : goal.returns
returns c = no-record-key _ _ _ c.is_view.ensures c.if-is_view.false
