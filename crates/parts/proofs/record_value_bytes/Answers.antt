-- `record_value_bytes`: cut out of a view; none of another.
use Rattle.parts.proofs.Own.{record-value-inside, record-value-cut, no-record-value}
use borrow.Author.Rules.{rules}
use Rattle.parts.proofs.record_value_bytes.Goals as goal

pub cut_out-requires : goal.cut_out-requires
cut_out-requires c = record-value-inside _ _ _ c.is_view.ensures c.if-is_view.true

pub returns-then-is_view : goal.returns-then-is_view
returns-then-is_view c = record-value-cut _ _ _ c.is_view.ensures _ c.if-is_view.true c.cut_out.ensures

pub returns : goal.returns
returns c = no-record-value _ _ _ c.is_view.ensures c.if-is_view.false
