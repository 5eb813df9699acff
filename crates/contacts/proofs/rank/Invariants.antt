-- `rank` looks for the place of k by halves: those before low are no farther, and those from high on are farther.
use native.Mathlib.Omega.{arith}
use Prim.Native.Nat.{◌+◌, ◌-◌, ◌/◌}
use mathlib.Core.Path.{sym, ◌∙◌}
use Rattle.contacts.proofs.Sorting.{Halving, halving, halve-left, halve-right, halved, held-length, held-count, held_below}
use Rattle.contacts.proofs.rank.Given as goal

abbrev pub invariant-loop-low : goal.invariant-loop-low
invariant-loop-low l = Halving l.table l.target l.at l.n l.k l.low l.high

abbrev pub decreases-loop-low : goal.decreases-loop-low
decreases-loop-low l = l.high - l.low
