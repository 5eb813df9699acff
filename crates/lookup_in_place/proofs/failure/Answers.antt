-- `failure`: refused, or marked and settled. Assumes nothing.
use Rattle.lookup_in_place.proofs.Steps.{short-step, failure-refused, failure-at}
use native.Mathlib.Omega.{arith}
use Rattle.flat_lookup.specs.FlatLookup.{lookup_in}
use Rattle.lookup.proofs.Steps.{found_within}
use Rattle.lookup.specs.Lookup.{failure_of}
use borrow.Author.Rules.{rules}
use Rattle.lookup_in_place.proofs.about.Reads as about-reads
use Rattle.lookup_in_place.proofs.fail.Reads as fail-reads
use Rattle.lookup_in_place.proofs.give.Reads as give-reads
use Rattle.lookup_in_place.proofs.failure.Goals as goal

pub returns-then-m-lt-SIZE : goal.returns-then-m-lt-SIZE
returns-then-m-lt-SIZE c = short-step c.args.m.now (failure_of (lookup_in c.args.m.now) _ _ _) _ c.if-m-lt-SIZE.true c.give.ensures

pub fail-requires : goal.fail-requires
fail-requires c = let w = found_within (lookup_in c.args.m.now) _ _ _ _ _ c.about-w.ensures c.in-Ok.is in (c.if-m-lt-SIZE.false, omega (arith, w.0, w.1), w.1)

pub returns-in-Err : goal.returns-in-Err
returns-in-Err c = failure-refused c.args.m.now _ _ _ c.if-m-lt-SIZE.false _ c.about-w.ensures _ _ c.in-Err.is c.give-in-Err.ensures

pub returns-in-Ok : goal.returns-in-Ok
returns-in-Ok c = failure-at c.args.m.now _ _ _ c.if-m-lt-SIZE.false _ c.about-w.ensures _ _ _ c.in-Ok.is c.fail.ensures
