-- `shared_bits` goes on while the words are the same: the shared bits are those of the words passed and of what is left.
use Prim.Native.Nat.{◌+◌, ◌*◌, ◌%◌, ◌≤◌}
use mathlib.Core.Path.{◌≡◌}
use lib.ListN.{drop}
use Rattle.place.specs.Place.{common, bits}
use Rattle.place.proofs.shared_bits.Given as goal

abbrev pub invariant-loop-i : goal.invariant-loop-i
invariant-loop-i l = (l.i ≤ 32) × (l.i % 8 ≡ 0) × (common (bits l.p) (bits l.ours) ≡ l.i * 8 + common (bits (drop l.i l.p)) (bits (drop l.i l.ours)))
