use mathlib.Core.Path.{sym, ◌∙◌}
use Rattle.lookup_marks.proofs.Scans.{still-start, still-none, still-end, still-failed, still-answered, still_open}
use Rattle.lookup_marks.proofs.over.Goals as goal
use Rattle.lookup_marks.proofs.over.Goals.{then-m-ne-FAILED+else-m-ne-ANSWERED, else-m-ne-FAILED}

pub loop-m-init : goal.loop-m-init
loop-m-init c = still-start c.args.marks.now

pub returns-then-left-eq0 : goal.returns-then-left-eq0
returns-then-left-eq0 c = sym (still-none _ _ _ c.if-left-eq0.true) ∙ c.loop-m.invariant

pub returns-then-m-ne-ANSWERED : goal.returns-then-m-ne-ANSWERED
returns-then-m-ne-ANSWERED c = sym (still_open _ _ _ c.loop-m-test.true c.if-left-eq0.false c.if-m-ne-FAILED.true c.if-m-ne-ANSWERED.true) ∙ c.loop-m.invariant

pub loop-m-preserved : goal.loop-m-preserved
loop-m-preserved c =
    elim c.if-m-ne-FAILED.branch [
      | then-m-ne-FAILED+else-m-ne-ANSWERED w ↦ rw w.left-is (sym (still-answered _ _ _ c.loop-m-test.true c.if-left-eq0.false w.if-m-ne-ANSWERED.false) ∙ c.loop-m.invariant)
      | else-m-ne-FAILED w ↦ rw w.left-is (sym (still-failed _ _ _ c.loop-m-test.true w.if-m-ne-FAILED.false) ∙ c.loop-m.invariant)
    ]

pub returns : goal.returns
returns c = sym (still-end _ _ _ c.loop-m-test.false) ∙ c.loop-m.invariant
