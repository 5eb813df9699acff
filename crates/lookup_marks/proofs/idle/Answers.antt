use mathlib.Core.Path.{sym, ◌∙◌}
use Rattle.lookup_marks.proofs.Scans.{pick-start, pick-none, pick_end, pick-failed, pick-idle, pick_other}
use Rattle.lookup_marks.proofs.idle.Goals as goal
use Rattle.lookup_marks.proofs.idle.Goals.{then-m-ne-FAILED, else-m-ne-FAILED}

pub loop-i-init : goal.loop-i-init
loop-i-init c = pick-start c.args.marks.now

pub returns-then-left-eq0 : goal.returns-then-left-eq0
returns-then-left-eq0 c = sym (pick-none _ _ _ c.if-left-eq0.true) ∙ c.loop-i.invariant

pub returns-then-m-eq-IDLE : goal.returns-then-m-eq-IDLE
returns-then-m-eq-IDLE c = sym (pick-idle _ _ _ c.loop-i-test.true c.if-left-eq0.false c.if-m-eq-IDLE.true) ∙ c.loop-i.invariant

pub loop-i-preserved : goal.loop-i-preserved
loop-i-preserved c =
    elim c.if-m-ne-FAILED.branch [
      | then-m-ne-FAILED w ↦ rw w.left-is (sym (pick_other _ _ _ c.loop-i-test.true c.if-left-eq0.false c.if-m-eq-IDLE.false w.if-m-ne-FAILED.true) ∙ c.loop-i.invariant)
      | else-m-ne-FAILED w ↦ rw w.left-is (sym (pick-failed _ _ _ c.loop-i-test.true w.if-m-ne-FAILED.false) ∙ c.loop-i.invariant)
    ]

pub returns : goal.returns
returns c = sym (pick_end _ _ _ c.loop-i-test.false) ∙ c.loop-i.invariant
