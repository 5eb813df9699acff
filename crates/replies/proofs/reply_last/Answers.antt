-- `reply_last`: the type, the contacts and one more entry.
use native.Mathlib.Omega.{arith}
use Rattle.replies.proofs.Whole.{last_done}
use borrow.Author.Rules.{rules}
use Rattle.replies.proofs.reply_last.Goals as goal

pub entries_len-requires : goal.entries_len-requires
entries_len-requires c = (omega (arith, c.requires.0), omega (arith, c.requires.1))

pub overflow_add-size : goal.overflow_add-size
overflow_add-size c = omega (arith, c.entries_len.ensures.1)

pub overflow_add-size-2 : goal.overflow_add-size-2
overflow_add-size-2 c = omega (arith, c.entries_len.ensures.1, c.own_len.ensures.1)

pub put_entries-b-requires : goal.put_entries-b-requires
put_entries-b-requires c = (omega (arith, c.requires.0), omega (arith, c.requires.1))

pub framed_len-requires : goal.framed_len-requires
framed_len-requires c = omega (arith, c.entries_len.ensures.1, c.own_len.ensures.1)

pub returns : goal.returns
returns c = last_done _ _ _ _ _ _ _ _ _ _ _ _ c.entries_len.ensures c.own_len.ensures c.begin-a.ensures c.put_entries-b.ensures c.put_own.ensures c.framed_len.ensures
