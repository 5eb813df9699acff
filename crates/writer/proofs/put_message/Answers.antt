-- `put_message`: the prefix, then the pieces by ascending field number.
use Rattle.writer.proofs.Whole.{six-pieces}
use borrow.Author.Rules.{rules}
use Rattle.writer.proofs.put_message.Goals as goal

pub returns : goal.returns
returns c = six-pieces _ _ _ _ _ _ _ _ _ _ _ _ _ _ _ _ _ _ _ _ _ c.put_varint-a.ensures c.put_number-b.ensures c.put_single-c.ensures c.put_held-d.ensures c.put_list-e.ensures c.put_list.ensures
