-- `twenty`: the first n ranks stand in the array, the others are those from rank i on. Assumes nothing.
use Rattle.lookup_marks.proofs.Scans.{Filling}
use Rattle.lookup_marks.proofs.twenty.Given as goal

abbrev pub invariant-loop-i : goal.invariant-loop-i
invariant-loop-i l = Filling l.marks l.at l.n l.i
