use native.Mathlib.Omega.{arith}
use mathlib.Core.Path.{sym}
use Rattle.octets.proofs.Stores.{copied, sets-out}
use Rattle.octets.proofs.copy.Goals as goal

pub returns-after-loop-i : goal.returns-after-loop-i
returns-after-loop-i c =
    copied _ _ _ _ _ _ c.loop-i.invariant (omega arith) (omega (arith, c.min-n.ensures)) (λ h. omega (arith, c.min-n.ensures))

pub returns-else-at-buf : goal.returns-else-at-buf
returns-else-at-buf c = sym (sets-out c.args.buf.now c.args.at c.args.src.now (omega arith))
