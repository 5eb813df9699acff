-- `console::feed` meets its contract: a place within the piece, and the calls that led there. Assumes nothing.
use Prim.Native.Nat.{◌≤◌, ◌-◌}
use mathlib.Core.Path.{◌≡◌}
use lib.ListN.{length, drop}
use Rattle.replies.specs.Lent.{lent}
use Rattle.node.specs.Node.{linked}
use Rattle.console.specs.Console.{stand}
use Rattle.console.proofs.Going.{Leads}
use Rattle.console.proofs.feed.Given as goal

abbrev pub invariant-loop-from : goal.invariant-loop-from
invariant-loop-from l = (l.from ≤ length l.piece)
    × (Leads l.me (stand (linked l.initial.c l.initial.buffer) (lent l.initial.contacts l.initial.records l.initial.reply) l.piece) (stand (linked l.c l.buffer) (lent l.contacts l.records l.reply) (drop l.from l.piece)))
    × (length l.buffer ≡ length l.initial.buffer) × (length l.contacts ≡ length l.initial.contacts) × (length l.records ≡ length l.initial.records) × (length l.reply ≡ length l.initial.reply)

abbrev pub decreases-loop-from : goal.decreases-loop-from
decreases-loop-from l = length l.piece - l.from
