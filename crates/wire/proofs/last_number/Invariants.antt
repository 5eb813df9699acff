-- `last_number`: the last one so far, or one among the fields from `at` on.
use Prim.Native.Nat.{◌-◌}
use mathlib.Core.Path.{◌≡◌, refl}
use lib.ListN.{length}
use borrow.Author.Rules.{rules}
use Rattle.octets.specs.Search.{last_of}
use Rattle.wire.specs.Wire.{fields_at, numbers}
use Rattle.wire.proofs.Scan.{next-is, nearer, number-done, number-broken, number-on}
use Rattle.wire.proofs.last_number.Given as goal

abbrev pub invariant-loop-next : goal.invariant-loop-next
invariant-loop-next l = last_of l.last (numbers l.number (fields_at l.s l.at)) ≡ last_of 0 (numbers l.number (fields_at l.s l.from))

abbrev pub decreases-loop-next : goal.decreases-loop-next
decreases-loop-next l = length l.s - l.at
