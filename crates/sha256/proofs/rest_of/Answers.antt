use Rattle.std.proofs.Common.{◌≡◌, ◌+◌, ◌-◌, ◌≤◌, ◌++◌, get_or, take, drop, replicate, sym, refl, arith, length-drop, get_or-drop}
use Rattle.sha256.proofs.Padding.{copy_more, part-take}
use Rattle.sha256.proofs.rest_of.Goals as goal

pub loop-i-init : goal.loop-i-init
loop-i-init c = (omega arith, refl)

pub loop-i-preserved : goal.loop-i-preserved
loop-i-preserved c = let l = c.loop-i in
    let a = c.args in
    let s = drop a.from a.src.now in
    let x = get_or a.src.now (a.from + l.i) 0 in
    (omega arith, rw l.invariant.1 (copy_more s l.i x (simp length-drop (omega arith)) (omega arith) (sym (get_or-drop a.from a.src.now l.i 0))))

pub returns : goal.returns
returns c = let a = c.args in
    let e : c.loop-i.i ≡ a.n = omega arith in
    rw (part-take a.src.now a.from a.n) (rw e at c.loop-i.invariant.1)
