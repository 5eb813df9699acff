-- `is_record` makes the tests of `is_record` in their order.
use native.Mathlib.Omega.{arith}
use borrow.Author.Tests.{not-true, not-false}
use Rattle.record_slots.proofs.Laying.{record-key, record-few, record-last}
use borrow.Author.Rules.{rules}
use Rattle.record_slots.proofs.is_record.Goals as goal

pub returns-then-not-is_key : goal.returns-then-not-is_key
returns-then-not-is_key c = record-key c.args.s.now c.key_of.ensures c.is_key.ensures c.if-not-is_key.true

pub returns-then-n-lt-TRAILER : goal.returns-then-n-lt-TRAILER
returns-then-n-lt-TRAILER c = record-few c.args.s.now c.key_of.ensures c.is_key.ensures c.if-not-is_key.false c.size_of-n.ensures (omega arith)

pub returns : goal.returns
returns c = record-last c.args.s.now c.key_of.ensures c.is_key.ensures c.if-not-is_key.false c.size_of-n.ensures (omega arith)
