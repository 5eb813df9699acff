-- `is_key` tests the length, then the six bytes.
use native.Mathlib.Omega.{arith}
use Rattle.record_slots.proofs.Laying.{key-short, key-long, key-opens}
use borrow.Author.Rules.{rules}
use Rattle.record_slots.proofs.is_key.Goals as goal

pub returns-then-key-lt-KEY_MIN : goal.returns-then-key-lt-KEY_MIN
returns-then-key-lt-KEY_MIN c = key-short c.args.key.now (omega arith)

pub returns-then-key-gt-MOST_KEY : goal.returns-then-key-gt-MOST_KEY
returns-then-key-gt-MOST_KEY c = key-long c.args.key.now (omega arith) (omega arith)

pub returns : goal.returns
returns c = key-opens c.args.key.now (omega arith) (omega arith) c.starts_with.ensures
