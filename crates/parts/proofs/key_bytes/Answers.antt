-- `key_bytes`: cut out of a view; none of another.
use Rattle.parts.proofs.Own.{key-inside, key-cut, no_key}
use borrow.Author.Rules.{rules}
use Rattle.parts.proofs.key_bytes.Goals as goal

pub cut_out-requires : goal.cut_out-requires
cut_out-requires c = key-inside _ _ _ c.is_view.ensures c.if-is_view.true

pub returns-then-is_view : goal.returns-then-is_view
returns-then-is_view c = key-cut _ _ _ c.is_view.ensures _ c.if-is_view.true c.cut_out.ensures

pub returns : goal.returns
returns c = no_key _ _ _ c.is_view.ensures c.if-is_view.false
