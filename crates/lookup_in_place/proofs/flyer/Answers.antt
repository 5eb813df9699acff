use Rattle.lookup_in_place.proofs.Parts.{all_there}
use Rattle.flat_lookup.specs.FlatLookup.{lookup_in}
use Rattle.octets.proofs.Finding.{seek_hit, seek-miss, seek-end}
use Rattle.lookup_candidates.specs.Candidates.{flies}
use Rattle.octets.specs.Search.{first_in}
use native.Mathlib.Omega.{arith}
use lib.ListN.{take, drop}
use mathlib.Core.Path.{◌≡◌}
use Prim.Native.Nat.{◌≤◌, ◌-◌, ◌+◌}
use borrow.Author.Rules.{rules}
use Rattle.lookup_in_place.proofs.flies_at.Reads as flies-at-reads
use Rattle.lookup_in_place.proofs.flyer.Goals as goal

pub loop-i-init : goal.loop-i-init
loop-i-init c = (omega arith, omega arith)

pub flies_at-requires : goal.flies_at-requires
flies_at-requires c = (c.requires.0, omega (arith, c.requires.1, c.loop-i-test.true))

pub returns-then-flies_at : goal.returns-then-flies_at
returns-then-flies_at c = seek_hit _ _ _ _ _ _ _ (omega (arith, c.requires.1, all_there c.args.m.now)) c.loop-i-test.true c.flies_at.ensures c.if-flies_at.true c.loop-i.invariant.1

pub loop-i-preserved : goal.loop-i-preserved
loop-i-preserved c = (omega arith, seek-miss _ _ _ _ _ _ _ (omega (arith, c.requires.1, all_there c.args.m.now)) c.loop-i-test.true c.flies_at.ensures c.if-flies_at.false c.loop-i.invariant.1)

pub returns : goal.returns
returns c = seek-end _ _ _ _ _ c.loop-i-test.false c.loop-i.invariant.0 c.loop-i.invariant.1
