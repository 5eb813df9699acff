-- `sent`: all but the idle. Assumes nothing.
use native.Mathlib.Omega.{arith}
use lib.ListN.{length}
use Rattle.octets.proofs.Searching.{count-le}
use Rattle.lookup_marks.specs.Marks.{marked, idle}
use Rattle.lookup_marks.proofs.Scans.{sent-rest}
use Rattle.lookup_marks.proofs.sent.Goals as goal

pub overflow_sub-result : goal.overflow_sub-result
overflow_sub-result c = omega (arith, c.with_mark.ensures, count-le (marked idle c.args.marks.now) (length c.args.marks.now))

pub returns : goal.returns
returns c = sent-rest _ c.with_mark.ensures
