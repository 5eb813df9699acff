use native.Mathlib.Omega.{arith}
use Prim.Native.Nat.{ℕ, ◌+◌, ◌*◌}
use mathlib.Core.Path.{sym, ap, ◌∙◌}
use lib.Bits.{bit_xor}
use lib.Count.{leading_le}
use Rattle.place.proofs.Buckets.{read_same, read-other, words-end}
use Rattle.place.proofs.shared_bits.Goals as goal

pub loop-i-init : goal.loop-i-init
loop-i-init c = (omega arith, omega arith, omega arith)

pub overflow_cast-result : goal.overflow_cast-result
overflow_cast-result c = omega (arith, leading_le 64 (bit_xor c.word.result c.word-in-loop-i.result))

pub overflow_add-result : goal.overflow_add-result
overflow_add-result c = omega (arith, leading_le 64 (bit_xor c.word.result c.word-in-loop-i.result))

pub returns-then-x-ne0 : goal.returns-then-x-ne0
returns-then-x-ne0 c = sym (c.loop-i.invariant.2 ∙ ap (λ (n : ℕ). c.loop-i.i * 8 + n) (read-other c.args.p.now c.args.ours.now c.loop-i.i (omega (arith, c.requires.0)) (omega (arith, c.requires.1)) (λ k. (c.type_inv.p k).fits) (λ k. (c.type_inv.ours k).fits) c.word.ensures c.word-in-loop-i.ensures c.if-x-ne0.true))

pub loop-i-preserved : goal.loop-i-preserved
loop-i-preserved c = (omega arith, omega arith, omega (arith, c.loop-i.invariant.2, read_same c.args.p.now c.args.ours.now c.loop-i.i (omega (arith, c.requires.0)) (omega (arith, c.requires.1)) (λ k. (c.type_inv.p k).fits) (λ k. (c.type_inv.ours k).fits) c.word.ensures c.word-in-loop-i.ensures c.if-x-ne0.false))

pub returns : goal.returns
returns c = omega (arith, c.loop-i.invariant.2, words-end c.args.p.now c.args.ours.now c.loop-i.i (omega arith) (omega arith))
