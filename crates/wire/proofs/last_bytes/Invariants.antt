-- `last_bytes`: the last one so far, or one on the rest of the walk.
use Prim.Native.Nat.{◌-◌}
use mathlib.Core.Path.{◌≡◌, refl, sym, ◌∙◌}
use lib.ListN.{length}
use borrow.Author.Rules.{rules}
use Rattle.octets.specs.Search.{last_of}
use Rattle.wire.specs.Wire.{fields_at, spans}
use Rattle.wire.proofs.Scan.{last_on, last_done, last_less}
use Rattle.wire.proofs.last_bytes.Given as goal

abbrev pub invariant-loop-p : goal.invariant-loop-p
invariant-loop-p l = last_of l.last (spans l.number (fields_at l.s l.at)) ≡ last_of l.initial.last (spans l.number (fields_at l.s l.from))

abbrev pub decreases-loop-p : goal.decreases-loop-p
decreases-loop-p l = length l.s - l.at
