use Rattle.lookup_in_place.proofs.Arrivals.{any-hit, any-miss, any-end}
use Rattle.lookup_candidates.specs.Candidates.{lies_at}
use Rattle.octets.specs.Search.{any_in}
use Rattle.lookup_in_place.proofs.Parts.{all_there}
use borrow.Author.Rules.{rules}
use Rattle.flat_lookup.specs.FlatLookup.{lookup_in}
use native.Mathlib.Omega.{arith}
use lib.ListN.{take, drop}
use mathlib.Core.Path.{◌≡◌, refl}
use Prim.Native.Nat.{◌≤◌, ◌-◌}
use Rattle.lookup_in_place.proofs.lies_at.Reads as lies-at-reads
use Rattle.lookup_in_place.proofs.is_known.Goals as goal

pub loop-i-init : goal.loop-i-init
loop-i-init c = (omega arith, refl)

pub lies_at-requires : goal.lies_at-requires
lies_at-requires c = (c.requires.0, omega (arith, c.requires.1, c.loop-i-test.true))

pub returns-then-lies_at : goal.returns-then-lies_at
returns-then-lies_at c = any-hit _ _ _ _ _ _ _ (omega (arith, c.requires.1, all_there c.args.m.now)) c.loop-i-test.true c.lies_at.ensures c.loop-i.invariant.1 c.if-lies_at.true

pub loop-i-preserved : goal.loop-i-preserved
loop-i-preserved c = (omega arith, any-miss _ _ _ _ _ _ _ (omega (arith, c.requires.1, all_there c.args.m.now)) c.loop-i-test.true c.lies_at.ensures c.loop-i.invariant.1 c.if-lies_at.false)

pub returns : goal.returns
returns c = any-end _ _ _ _ _ c.loop-i-test.false c.loop-i.invariant.1
