-- `past_end` goes by the room there is.
use native.Mathlib.Omega.{arith}
use Rattle.wire_put.proofs.Digits.{past_fits, past-full, past-over}
use Rattle.wire_put.proofs.past_end.Goals as goal

pub returns-then-size-at : goal.returns-then-size-at
returns-then-size-at c = past-over _ _ _ (omega arith)

pub returns-then-n-size : goal.returns-then-n-size
returns-then-n-size c = past_fits _ _ _ (omega arith)

pub returns : goal.returns
returns c = past-full _ _ _ (omega arith) (omega arith)
