use Prim.Native.Nat.{◌-◌}
use borrow.Author.Rules.{rules}
use native.Mathlib.Omega.{arith}
use mathlib.Core.Path.{◌∙◌}
use Rattle.wire.proofs.Varints.{Going, going_start, going-past, going-stop, going_more, going-last, digit-fits, place-fits, acc-fits}
use Rattle.wire.proofs.read_varint.Goals as goal

pub loop-left-init : goal.loop-left-init
loop-left-init c = going_start _ _

pub returns-then-i-s : goal.returns-then-i-s
returns-then-i-s c = going-past _ _ _ _ _ _ 0 c.loop-left.invariant (search rules)

pub overflow_mul-result : goal.overflow_mul-result
overflow_mul-result c = omega (arith, digit-fits _ _ _ _ _ _ 0 c.loop-left.invariant c.wide-b.result (omega arith) (omega arith))

pub overflow_add-result : goal.overflow_add-result
overflow_add-result c = omega (arith, digit-fits _ _ _ _ _ _ 0 c.loop-left.invariant c.wide-b.result (omega arith) (omega arith))

pub returns-then-b-lt128 : goal.returns-then-b-lt128
returns-then-b-lt128 c = going-stop _ _ _ _ _ _ _ c.loop-left.invariant (omega arith) (omega arith) c.wide-b.ensures.0 (omega arith)

pub overflow_mul-acc : goal.overflow_mul-acc
overflow_mul-acc c = omega (arith, digit-fits _ _ _ _ _ _ 0 c.loop-left.invariant (c.wide-b.result - 128) (omega arith) (omega arith))

pub overflow_add-acc : goal.overflow_add-acc
overflow_add-acc c = omega (arith, digit-fits _ _ _ _ _ _ 0 c.loop-left.invariant (c.wide-b.result - 128) (omega arith) (omega arith))

pub overflow_mul-place : goal.overflow_mul-place
overflow_mul-place c = omega (arith, place-fits _ _ _ _ _ _ 0 c.loop-left.invariant (omega arith))

pub loop-left-preserved : goal.loop-left-preserved
loop-left-preserved c = going_more _ _ _ _ _ _ _ c.loop-left.invariant (omega arith) (omega arith) c.wide-b.ensures.0 (omega arith) (omega arith)

pub tenth-requires : goal.tenth-requires
tenth-requires c = acc-fits _ _ _ _ _ _ 0 c.loop-left.invariant (omega arith)

pub returns : goal.returns
returns c = c.tenth.ensures ∙ going-last _ _ _ _ _ _ 0 c.loop-left.invariant (omega arith)
