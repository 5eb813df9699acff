use Rattle.octets.proofs.Finding.{seek_hit, seek-miss, seek-end}
use Rattle.lookup.specs.Inner.{beyond}
use Rattle.octets.specs.Search.{first_in}
use Rattle.lookup_in_place.proofs.Parts.{all_there}
use borrow.Author.Rules.{rules}
use Rattle.flat_lookup.specs.FlatLookup.{lookup_in}
use native.Mathlib.Omega.{arith}
use lib.ListN.{take, drop}
use mathlib.Core.Path.{◌≡◌}
use Prim.Native.Nat.{◌≤◌, ◌-◌, ◌+◌}
use Rattle.lookup_in_place.proofs.is_beyond.Reads as is-beyond-reads
use Rattle.lookup_in_place.proofs.rank.Goals as goal

pub loop-i-init : goal.loop-i-init
loop-i-init c = (omega arith, omega arith)

pub is_beyond-requires : goal.is_beyond-requires
is_beyond-requires c = (c.requires.0, omega (arith, c.requires.1, c.loop-i-test.true))

pub returns-then-is_beyond : goal.returns-then-is_beyond
returns-then-is_beyond c = (seek_hit _ _ _ _ _ _ _ (omega (arith, c.requires.1, all_there c.args.m.now)) c.loop-i-test.true c.is_beyond.ensures c.if-is_beyond.true c.loop-i.invariant.1, omega (arith, c.loop-i-test.true))

pub loop-i-preserved : goal.loop-i-preserved
loop-i-preserved c = (omega arith, seek-miss _ _ _ _ _ _ _ (omega (arith, c.requires.1, all_there c.args.m.now)) c.loop-i-test.true c.is_beyond.ensures c.if-is_beyond.false c.loop-i.invariant.1)

pub returns : goal.returns
returns c = (seek-end _ _ _ _ _ c.loop-i-test.false c.loop-i.invariant.0 c.loop-i.invariant.1, omega arith)
