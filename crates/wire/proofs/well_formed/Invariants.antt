-- `well_formed`: the fields from `at` on decide.
use Prim.Native.Nat.{◌-◌}
use mathlib.Core.Path.{◌≡◌, refl}
use lib.ListN.{length}
use borrow.Author.Rules.{rules}
use Rattle.wire.specs.Wire.{fields_at, well}
use Rattle.wire.proofs.Scan.{next-is, nearer, well-done, well-broken, well-on}
use Rattle.wire.proofs.well_formed.Given as goal

abbrev pub invariant-loop-next : goal.invariant-loop-next
invariant-loop-next l = well (fields_at l.s l.at) ≡ well (fields_at l.s l.from)

abbrev pub decreases-loop-next : goal.decreases-loop-next
decreases-loop-next l = length l.s - l.at
