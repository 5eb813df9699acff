use native.Mathlib.Omega.{arith}
use Rattle.wire_put.proofs.Digits.{writing, write-end, write-on, write-last}
use Rattle.wire_put.proofs.put_varint.Goals as goal

pub loop-i-init : goal.loop-i-init
loop-i-init c = writing _ _ _ c.ranges.v.fits

pub returns-then-rest-lt128 : goal.returns-then-rest-lt128
returns-then-rest-lt128 c = write-last _ _ _ _ _ _ c.loop-i.invariant _ c.low.ensures (omega arith) (omega (arith, c.loop-i.invariant.kept))

pub loop-i-preserved : goal.loop-i-preserved
loop-i-preserved c = write-on _ _ _ _ _ _ c.loop-i.invariant _ c.low-in-loop-i.ensures (omega arith) (omega (arith, c.loop-i.invariant.kept))

pub returns : goal.returns
returns c = write-end _ _ _ _ _ _ c.loop-i.invariant c.max.result c.max.ensures (omega (arith, c.loop-i.invariant.kept))
