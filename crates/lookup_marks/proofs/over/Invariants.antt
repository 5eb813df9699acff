-- `over`: what is left to look at, from a rank on, decides. Assumes nothing.
use mathlib.Core.Path.{◌≡◌}
use Rattle.lookup_marks.specs.Marks.{is_over}
use Rattle.lookup_marks.proofs.Scans.{Still}
use Rattle.lookup_marks.proofs.over.Given as goal

abbrev pub invariant-loop-m : goal.invariant-loop-m
invariant-loop-m l = Still l.marks l.left l.m-index ≡ is_over l.marks
