use Rattle.lookup_in_place.proofs.Parts.{all_there}
use Rattle.lookup.proofs.Form.{first-none, first-bad, first_good, follow-no, follow-yes, follow-end}
use native.Mathlib.Omega.{arith}
use Rattle.std.proofs.Common.{ap}
use mathlib.Core.Bool.{not}
use Prim.Native.Nat.{◌+◌, ◌<◌, ◌≤◌}
use Rattle.lookup_in_place.proofs.in_order.Goals as goal

pub returns-then-n-eq0 : goal.returns-then-n-eq0
returns-then-n-eq0 c = first-none _ _ _ c.if-n-eq0.true

pub returns-then-not-well_made_at : goal.returns-then-not-well_made_at
returns-then-not-well_made_at c = first-bad _ _ _ _ _ c.if-n-eq0.false (omega (arith, c.requires.1, all_there c.args.m.now)) c.well_made_at.ensures (ap not c.if-not-well_made_at.true)

pub loop-i-init : goal.loop-i-init
loop-i-init c = first_good _ _ _ _ _ c.if-n-eq0.false (omega (arith, c.requires.1, all_there c.args.m.now)) c.well_made_at.ensures (ap not c.if-not-well_made_at.false)

pub returns-then-not-follows_at : goal.returns-then-not-follows_at
returns-then-not-follows_at c =
    let h : c.loop-i.i + 1 < c.args.n = omega arith in
    follow-no _ _ _ _ _ _ _ _ (omega (arith, c.requires.1, all_there c.args.m.now)) h c.follows_at.ensures c.loop-i.invariant (ap not c.if-not-follows_at.true)

pub loop-i-preserved : goal.loop-i-preserved
loop-i-preserved c =
    let h : c.loop-i.i + 1 < c.args.n = omega arith in
    follow-yes _ _ _ _ _ _ _ _ (omega (arith, c.requires.1, all_there c.args.m.now)) h c.follows_at.ensures c.loop-i.invariant (ap not c.if-not-follows_at.false)

pub returns : goal.returns
returns c =
    let h : c.args.n ≤ c.loop-i.i + 1 = omega arith in
    follow-end _ _ _ _ _ _ h c.loop-i.invariant
