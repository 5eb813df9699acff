-- `copy` stores the source byte by byte: what is left to store from `i` on completes the whole.
use Rattle.octets.proofs.Stores.{Copying}
use Rattle.octets.proofs.copy.Given as goal

abbrev pub invariant-loop-i : goal.invariant-loop-i
invariant-loop-i l = Copying l.initial.buf l.at l.src l.n l.buf l.i
