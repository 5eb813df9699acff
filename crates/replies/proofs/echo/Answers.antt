-- `echo`: type, key and record.
use native.Mathlib.Omega.{arith}
use lib.ListN.{length}
use Rattle.replies.proofs.Whole.{prefix-short, record-piece-most, echo-done}
use borrow.Author.Rules.{rules}
use Rattle.replies.proofs.echo.Goals as goal

pub overflow_add-key_len : goal.overflow_add-key_len
overflow_add-key_len c = omega (arith, c.varint_len.ensures, prefix-short (length c.args.key.now) (omega (arith, c.requires.1)))

pub overflow_add-key_len-2 : goal.overflow_add-key_len-2
overflow_add-key_len-2 c = omega (arith, c.varint_len.ensures, c.requires.1, prefix-short (length c.args.key.now) (omega (arith, c.requires.1)))

pub overflow_add-size : goal.overflow_add-size
overflow_add-size c = omega (arith, c.varint_len.ensures, c.requires.1, prefix-short (length c.args.key.now) (omega (arith, c.requires.1)))

pub overflow_add-size-2 : goal.overflow_add-size-2
overflow_add-size-2 c = omega (arith, c.varint_len.ensures, c.record_len.ensures, c.requires.1, prefix-short (length c.args.key.now) (omega (arith, c.requires.1)), record-piece-most c.args.key.now c.args.value.now c.requires.1 c.requires.2)

pub framed_len-requires : goal.framed_len-requires
framed_len-requires c = omega (arith, c.varint_len.ensures, c.record_len.ensures, c.requires.1, prefix-short (length c.args.key.now) (omega (arith, c.requires.1)), record-piece-most c.args.key.now c.args.value.now c.requires.1 c.requires.2)

pub returns : goal.returns
returns c = echo-done _ _ _ _ _ _ _ _ _ _ _ _ c.requires.0 c.requires.1 c.requires.2 c.varint_len.ensures c.record_len.ensures c.begin-a.ensures c.put_bytes-b.ensures c.put_record.ensures c.framed_len.ensures
