-- `decode` puts the spelled bytes at the start of `out`. The invariant: the first i bytes of `out` are those that the digits spell.
use Rattle.sha256_vectors.specs.Hex.{spelled}
use mathlib.Core.Path.{◌≡◌}
use lib.ListN.{length, take}
use Prim.Native.Nat.{◌≤◌}
use Rattle.sha256_vectors.proofs.hex.decode.Given as goal

abbrev pub invariant-loop-i : goal.invariant-loop-i
invariant-loop-i l = (l.i ≤ l.n) × (length l.out ≡ length l.initial.out) × (take l.i l.out ≡ spelled l.i l.src)
