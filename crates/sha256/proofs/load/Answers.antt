use Rattle.std.proofs.Common.{◌≡◌, ◌+◌, ◌-◌, ◌≤◌, length, take, sym, refl, ◌∙◌, arith, length-set, take_all}
use Rattle.octets.specs.Octets.{part}
use Rattle.sha256.specs.Sha256.{schedule}
use Rattle.sha256.proofs.Schedule.{load-more}
use Rattle.sha256.proofs.load.Goals as goal

pub loop-i-init : goal.loop-i-init
unfolding schedule
loop-i-init c = (omega arith, refl, refl)

pub loop-i-preserved : goal.loop-i-preserved
loop-i-preserved c = let l = c.loop-i in
    let a = c.args in
    let x = c.word_at in
    (omega arith, simp length-set l.invariant.1, load-more a.src.now l.w a.at l.i x.result (omega arith) (omega arith) l.invariant.2 x.ensures)

pub returns : goal.returns
returns c = let l = c.loop-i in
    let e : l.i ≡ 16 = omega arith in
    sym (take_all 16 l.w (omega arith)) ∙ rw e at l.invariant.2
