-- `reply_closer`: the type and the contacts.
use native.Mathlib.Omega.{arith}
use Rattle.replies.proofs.Whole.{closer-done}
use borrow.Author.Rules.{rules}
use Rattle.replies.proofs.reply_closer.Goals as goal

pub entries_len-size-requires : goal.entries_len-size-requires
entries_len-size-requires c = (omega (arith, c.requires.0), omega (arith, c.requires.1))

pub overflow_add-size : goal.overflow_add-size
overflow_add-size c = omega (arith, c.entries_len-size.ensures.1)

pub put_entries-requires : goal.put_entries-requires
put_entries-requires c = (omega (arith, c.requires.0), omega (arith, c.requires.1))

pub framed_len-requires : goal.framed_len-requires
framed_len-requires c = omega (arith, c.entries_len-size.ensures.1)

pub returns : goal.returns
returns c = closer-done _ _ _ _ _ _ _ _ _ c.requires.2 c.entries_len-size.ensures c.begin-a.ensures c.put_entries.ensures c.framed_len.ensures
