use mathlib.Core.Path.{sym, ◌∙◌}
use native.Mathlib.Omega.{arith}
use Rattle.octets.proofs.Searching.{count-zero, count-le}
use Rattle.lookup_marks.specs.Marks.{marked}
use Rattle.lookup_marks.proofs.Scans.{mark-end, mark-one, mark-none}
use Rattle.lookup_marks.proofs.with_mark.Goals as goal
use Rattle.lookup_marks.proofs.with_mark.Goals.{then-m-mark, else-m-mark}

pub loop-m-init : goal.loop-m-init
loop-m-init c = sym (count-zero (marked c.args.mark c.args.marks.now))

pub overflow_add-n : goal.overflow_add-n
overflow_add-n c = omega (arith, count-le (marked c.args.mark c.args.marks.now) c.loop-m.m-index)

pub loop-m-preserved : goal.loop-m-preserved
loop-m-preserved c =
    elim c.if-m-mark.branch [
      | then-m-mark w ↦ rw w.n-is (omega (arith, c.loop-m.invariant, mark-one _ c.args.marks.now c.loop-m.m-index w.if-m-mark.true))
      | else-m-mark w ↦ rw w.n-is (c.loop-m.invariant ∙ sym (mark-none _ c.args.marks.now c.loop-m.m-index w.if-m-mark.false))
    ]

pub returns : goal.returns
returns c = c.loop-m.invariant ∙ mark-end c.args.mark c.args.marks.now _ c.loop-m-test.false c.loop-m.auto.m-index-end
