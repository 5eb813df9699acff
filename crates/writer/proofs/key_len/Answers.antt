-- `key_len`: nothing for an empty key.
use native.Mathlib.Omega.{arith}
use Rattle.writer.proofs.Whole.{key-none, key-some}
use borrow.Author.Rules.{rules}
use Rattle.writer.proofs.key_len.Goals as goal

pub returns-then-key-eq0 : goal.returns-then-key-eq0
returns-then-key-eq0 c = key-none _ c.if-key-eq0.true

pub overflow_add-result : goal.overflow_add-result
overflow_add-result c = omega (arith, (key-some c.args.key.now c.requires c.if-key-eq0.false c.varint_len.result c.varint_len.ensures).1)

pub overflow_add-result-2 : goal.overflow_add-result-2
overflow_add-result-2 c = omega (arith, (key-some c.args.key.now c.requires c.if-key-eq0.false c.varint_len.result c.varint_len.ensures).1)

pub returns : goal.returns
returns c = key-some _ c.requires c.if-key-eq0.false _ c.varint_len.ensures
