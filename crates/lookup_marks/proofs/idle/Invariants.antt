-- `idle`: the nearest idle one from rank i on is the nearest of all. Assumes nothing.
use mathlib.Core.Path.{◌≡◌}
use Rattle.lookup_marks.specs.Marks.{idle_of}
use Rattle.lookup_marks.proofs.Scans.{Pick}
use Rattle.lookup_marks.proofs.idle.Given as goal

abbrev pub invariant-loop-i : goal.invariant-loop-i
invariant-loop-i l = Pick l.marks l.left l.i ≡ idle_of l.marks
