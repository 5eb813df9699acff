-- `with_mark`: n of those looked at have the mark. Assumes nothing.
use mathlib.Core.Path.{◌≡◌}
use Rattle.octets.specs.Search.{count}
use Rattle.lookup_marks.specs.Marks.{marked}
use Rattle.lookup_marks.proofs.with_mark.Given as goal

abbrev pub invariant-loop-m : goal.invariant-loop-m
invariant-loop-m l = l.n ≡ count l.m-index (marked l.mark l.marks)
