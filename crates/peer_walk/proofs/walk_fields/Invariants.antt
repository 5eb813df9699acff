-- `walk_fields`: what has been read so far, and the rest of the walk.
use Prim.Native.Nat.{◌-◌}
use mathlib.Core.Path.{◌∙◌}
use lib.ListN.{length}
use native.Mathlib.Omega.{arith}
use borrow.Author.Rules.{rules}
use Rattle.peer_walk.proofs.Walking.{Walking, walking, bytes-nearer, bytes_counted, walk-id, walk_first, walk_more, walk-bytes, number-nearer, walk-connection, walk-number, other-nearer, walk-other, walk_end, walk-bad}
use Rattle.peer_walk.proofs.walk_fields.Given as goal

abbrev pub invariant-loop-number : goal.invariant-loop-number
invariant-loop-number l = Walking l.s l.from l.places l.id l.connection l.count l.at

abbrev pub decreases-loop-number : goal.decreases-loop-number
decreases-loop-number l = length l.s - l.at
