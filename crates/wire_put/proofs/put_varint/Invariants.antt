-- `put_varint`: what is left to write from `i` on completes the whole.
use Rattle.wire_put.proofs.Digits.{Writing}
use Rattle.wire_put.proofs.put_varint.Given as goal

abbrev pub invariant-loop-i : goal.invariant-loop-i
invariant-loop-i l = Writing l.initial.buf l.at l.v l.buf l.i l.rest
