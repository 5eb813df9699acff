use mathlib.Core.Path.{◌≡◌}
use native.Mathlib.Omega.{arith}
use Rattle.message.proofs.Hearing.{Walking, walking, walk-on, walk_end, walk-full}
use Rattle.message.proofs.closer_ids.Goals as goal

pub loop-n-init : goal.loop-n-init
loop-n-init c = walking _

pub loop-n-preserved : goal.loop-n-preserved
loop-n-preserved c = walk-on _ _ _ _ _ c.loop-n.invariant c.loop-n-test.true _ c.closer_peer.ensures _ c.in-Some.is _ c.peer_id-id.ensures

pub returns-in-None : goal.returns-in-None
returns-in-None c = walk_end _ _ _ _ _ c.loop-n.invariant _ c.closer_peer.ensures c.in-None.is

pub returns : goal.returns
returns c =
    let e : c.loop-n.n ≡ 21 = omega arith in
    rw e at (walk-full _ _ _ _ _ c.loop-n.invariant (omega arith))
