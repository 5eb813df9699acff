use Rattle.std.proofs.Common.{◌≡◌, ℕ, ◌+◌, ◌-◌, ◌*◌, ◌≤◌, List, arith}
use Rattle.sha256.specs.Inner.{Done}
use Rattle.sha256.proofs.Schedule.{done_at, sixteen, sixteen-more}
use Rattle.sha256.proofs.first_rounds.Goals as goal

pub loop-i-init : goal.loop-i-init
loop-i-init c = (omega arith, λ b d. d)

pub advance_sixteen-v-requires : goal.advance_sixteen-v-requires
advance_sixteen-v-requires c = sixteen c.loop-i.i (omega arith) c.requires

pub loop-i-preserved : goal.loop-i-preserved
loop-i-preserved c = let l = c.loop-i in
    let s = c.args.s in
    (omega arith, λ b d. done_at (16 * (l.i + 1)) (c.advance_sixteen-v.ensures b s (l.invariant.1 b d)) (sixteen-more l.i))

pub returns : goal.returns
returns c = let e : c.loop-i.i ≡ 3 = omega arith in rw e at c.loop-i.invariant.1
