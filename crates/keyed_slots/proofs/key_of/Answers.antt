-- `key_of` cuts out as many bytes as byte 0 says, or as many as the slot has.
use native.Mathlib.Omega.{arith}
use Rattle.keyed_slots.proofs.Laying.{key-none, key-short, key-cut}
use Rattle.keyed_slots.proofs.key_of.Goals as goal

pub overflow_cast-n : goal.overflow_cast-n
overflow_cast-n c = omega (arith, c.type_inv.s 0)

pub returns-then-len-lt-KEY_AT : goal.returns-then-len-lt-KEY_AT
returns-then-len-lt-KEY_AT c = key-none c.args.s.now (omega arith)

pub returns-then-len-n : goal.returns-then-len-n
returns-then-len-n c = key-short c.args.s.now (omega arith)

pub returns : goal.returns
returns c = key-cut c.args.s.now
