use Rattle.std.proofs.Common.{◌≡◌, ◌-◌, ◌≤◌, refl, add-one, arith}
use Rattle.sha256.specs.Sha256.{absorbed}
use Rattle.sha256.proofs.absorb.Goals as goal

pub loop-i-init : goal.loop-i-init
unfolding absorbed
loop-i-init c = (omega arith, refl)

pub compress_at-v-requires : goal.compress_at-v-requires
compress_at-v-requires c = (omega arith, c.requires.1)

pub loop-i-preserved : goal.loop-i-preserved
unfolding absorbed
loop-i-preserved c = (omega arith, rw add-one (cc))

pub returns : goal.returns
returns c = let e : c.loop-i.i ≡ c.args.n = omega arith in rw e at c.loop-i.invariant.1
