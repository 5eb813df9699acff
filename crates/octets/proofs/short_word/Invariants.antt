-- `short_word` reads from the first byte on: `w` is the number of the bytes read.
use mathlib.Core.Path.{◌≡◌}
use lib.ListN.{take}
use Rattle.octets.specs.Octets.{number}
use Rattle.octets.proofs.short_word.Given as goal

abbrev pub invariant-loop-b : goal.invariant-loop-b
invariant-loop-b l = l.w ≡ number (take l.b-index l.s)
