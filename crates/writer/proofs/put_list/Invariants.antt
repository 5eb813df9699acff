-- `put_list`: what was written, and the peers that are left.
use Prim.Native.Nat.{◌-◌}
use native.Mathlib.Omega.{arith}
use lib.ListN.{length}
use borrow.Author.Rules.{rules}
use Rattle.octets.specs.Octets.{part}
use Rattle.wire_put.proofs.Putting.{put-length}
use Rattle.writer.proofs.Entries.{peer-five}
use Rattle.writer.proofs.Counting.{Putting, putting, put-end, put_next}
use Rattle.writer.proofs.put_list.Given as goal

abbrev pub invariant-loop-rest : goal.invariant-loop-rest
invariant-loop-rest l = Putting l.field l.s l.initial.buf l.from l.buf l.to l.at

abbrev pub decreases-loop-rest : goal.decreases-loop-rest
decreases-loop-rest l = length l.s - l.at
