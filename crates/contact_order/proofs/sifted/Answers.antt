-- `contact_order::sifted` looks at the first word of the place. Assumes nothing.
use native.Mathlib.Omega.{arith}
use lib.Bits.{bit_xor}
use lib.Count.{leading_le}
use Rattle.contacts.specs.Table.{slot, place}
use Rattle.contact_order.proofs.FirstWord.{sift-none, sift-word}
use borrow.Author.Rules.{rules}
use Rattle.contact_order.proofs.sifted.Goals as goal

pub returns-then-sieve-gt64 : goal.returns-then-sieve-gt64
returns-then-sieve-gt64 c = sift-none c.args.sieve (place (slot c.args.table.now c.args.i)) c.if-sieve-gt64.true

pub overflow_cast-shared : goal.overflow_cast-shared
overflow_cast-shared c = omega (arith, leading_le 64 (bit_xor c.word.result c.args.sieve.word))

pub returns : goal.returns
returns c = sift-word c.args.sieve (place (slot c.args.table.now c.args.i)) c.if-sieve-gt64.false _ _ c.word.ensures c.place_at.ensures.0
