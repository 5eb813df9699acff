-- `next_bytes`: the first among the fields from `at` on is the one looked for.
use Prim.Native.Nat.{◌-◌}
use mathlib.Core.Path.{◌≡◌, refl}
use lib.ListN.{length}
use borrow.Author.Rules.{rules}
use Rattle.wire.specs.Wire.{fields_at, spans, first_of}
use Rattle.wire.proofs.Scan.{next-is, found-is, nearer, none_done, none-broken, found, further}
use Rattle.wire.proofs.next_bytes.Given as goal

abbrev pub invariant-loop-next : goal.invariant-loop-next
invariant-loop-next l = first_of (spans l.number (fields_at l.s l.at)) ≡ first_of (spans l.number (fields_at l.s l.from))

abbrev pub decreases-loop-next : goal.decreases-loop-next
decreases-loop-next l = length l.s - l.at
