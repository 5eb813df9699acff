-- `value_of` is safe: the value stays below a thousand million.
use Prim.Native.Nat.{◌<◌}
use Rattle.sha256_vectors.proofs.lines.value_of.Given as goal

abbrev pub invariant-loop-c : goal.invariant-loop-c
invariant-loop-c l = l.value < 1000000000
