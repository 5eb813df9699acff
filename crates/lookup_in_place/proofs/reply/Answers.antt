-- `reply`: the view, then refused, or heard and settled. Assumes nothing.
use Rattle.lookup_in_place.proofs.Steps.{short-step, reply-bad-in, reply-refused-in, reply-at-in}
use native.Mathlib.Omega.{arith}
use Rattle.flat_lookup.specs.FlatLookup.{lookup_in}
use Rattle.lookup.proofs.Steps.{found_within}
use Rattle.lookup.specs.Lookup.{reply_of}
use borrow.Author.Rules.{rules}
use Rattle.lookup_in_place.proofs.about.Reads as about-reads
use Rattle.lookup_in_place.proofs.give.Reads as give-reads
use Rattle.lookup_in_place.proofs.hear_out.Reads as hear-out-reads
use Rattle.parts.proofs.is_view.Reads as is-view-reads
use Rattle.std.proofs.Common.{ap}
use mathlib.Core.Bool.{not}
use Rattle.lookup_in_place.proofs.reply.Goals as goal

pub returns-then-m-lt-SIZE : goal.returns-then-m-lt-SIZE
returns-then-m-lt-SIZE c = short-step c.args.m.now (reply_of (lookup_in c.args.m.now) _ _ _ _ _) _ c.if-m-lt-SIZE.true c.give.ensures

pub returns-then-not-is_view : goal.returns-then-not-is_view
returns-then-not-is_view c = reply-bad-in c.args.m.now _ _ _ _ _ c.if-m-lt-SIZE.false _ c.is_view.ensures _ (ap not c.if-not-is_view.true) c.give-then-not-is_view.ensures

pub hear_out-requires : goal.hear_out-requires
hear_out-requires c = let w = found_within (lookup_in c.args.m.now) _ _ _ _ _ c.about-w.ensures c.in-Ok.is in (c.if-m-lt-SIZE.false, omega (arith, w.0, w.1), w.1)

pub returns-in-Err : goal.returns-in-Err
returns-in-Err c = reply-refused-in c.args.m.now _ _ _ _ _ c.if-m-lt-SIZE.false _ c.is_view.ensures (ap not c.if-not-is_view.false) _ c.about-w.ensures _ _ c.in-Err.is c.give-in-Err.ensures

pub returns-in-Ok : goal.returns-in-Ok
returns-in-Ok c = reply-at-in c.args.m.now _ _ _ _ _ c.if-m-lt-SIZE.false _ c.is_view.ensures (ap not c.if-not-is_view.false) _ c.about-w.ensures _ _ _ c.in-Ok.is c.hear_out.ensures
