use native.Mathlib.Omega.{arith}
use mathlib.Core.Path.{sym, ap₂, ◌∙◌}
use Prim.Native.Nat.{ℕ, ◌+◌, ◌*◌}
use Rattle.octets.proofs.Numbers.{number-none, number_more, few-lt}
use Rattle.octets.proofs.short_word.Goals as goal

pub loop-b-init : goal.loop-b-init
loop-b-init c = sym number-none

pub overflow_mul-w : goal.overflow_mul-w
overflow_mul-w c = omega (arith, c.loop-b.invariant, few-lt c.args.s.now c.loop-b.b-index (λ k. (c.type_inv.s k).fits) (omega (arith, c.requires)))

pub overflow_add-w : goal.overflow_add-w
overflow_add-w c = omega (arith, c.from.ensures, c.type_inv.s c.loop-b.b-index, c.loop-b.invariant, few-lt c.args.s.now c.loop-b.b-index (λ k. (c.type_inv.s k).fits) (omega (arith, c.requires)))

pub loop-b-preserved : goal.loop-b-preserved
loop-b-preserved c = ap₂ (λ (n b : ℕ). n * 256 + b) c.loop-b.invariant c.from.ensures ∙ sym (number_more c.args.s.now c.loop-b.b-index (omega arith))
