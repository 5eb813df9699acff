-- `reply_held`: the type, the record and the contacts.
use native.Mathlib.Omega.{arith}
use Rattle.replies.proofs.Whole.{record-piece-most, held-done}
use borrow.Author.Rules.{rules}
use Rattle.replies.proofs.reply_held.Goals as goal

pub overflow_add-size : goal.overflow_add-size
overflow_add-size c = omega (arith, c.record_len.ensures, record-piece-most c.args.key.now c.args.value.now c.requires.2 c.requires.3)

pub entries_len-requires : goal.entries_len-requires
entries_len-requires c = (omega (arith, c.requires.0), omega (arith, c.requires.1))

pub overflow_add-size-2 : goal.overflow_add-size-2
overflow_add-size-2 c = omega (arith, c.record_len.ensures, c.entries_len.ensures.1, record-piece-most c.args.key.now c.args.value.now c.requires.2 c.requires.3)

pub put_entries-requires : goal.put_entries-requires
put_entries-requires c = (omega (arith, c.requires.0), omega (arith, c.requires.1))

pub framed_len-requires : goal.framed_len-requires
framed_len-requires c = omega (arith, c.record_len.ensures, c.entries_len.ensures.1, record-piece-most c.args.key.now c.args.value.now c.requires.2 c.requires.3)

pub returns : goal.returns
returns c = held-done _ _ _ _ _ _ _ _ _ _ _ _ _ c.requires.2 c.requires.3 c.record_len.ensures c.entries_len.ensures c.begin-a.ensures c.put_record-b.ensures c.put_entries.ensures c.framed_len.ensures
