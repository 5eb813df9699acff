use Rattle.lookup_marks.proofs.Scans.{fill_start, fill-failed, fill_one, fill-full, fill_end}
use Rattle.lookup_marks.proofs.twenty.Goals as goal
use Rattle.lookup_marks.proofs.twenty.Goals.{then-m-ne-FAILED, else-m-ne-FAILED}

pub loop-i-init : goal.loop-i-init
loop-i-init c = fill_start c.args.marks.now

pub returns-then-n-eq-MOST_NEAR : goal.returns-then-n-eq-MOST_NEAR
returns-then-n-eq-MOST_NEAR c = fill-full _ _ _ _ c.loop-i.invariant c.if-n-eq-MOST_NEAR.true

pub loop-i-preserved : goal.loop-i-preserved
loop-i-preserved c =
    elim c.if-m-ne-FAILED.branch [
      | then-m-ne-FAILED w ↦ rw (w.at-is, w.n-is) (fill_one _ _ _ _ c.loop-i.invariant c.loop-i-test.true c.if-n-eq-MOST_NEAR.false w.if-m-ne-FAILED.true)
      | else-m-ne-FAILED w ↦ rw (w.at-is, w.n-is) (fill-failed _ _ _ _ c.loop-i.invariant c.loop-i-test.true w.if-m-ne-FAILED.false)
    ]

pub returns : goal.returns
returns c = fill_end _ _ _ _ c.loop-i.invariant c.loop-i-test.false
