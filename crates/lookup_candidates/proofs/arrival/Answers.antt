-- `arrival`: a bad id, ourselves, or a newcomer. Assumes nothing.
use Rattle.lookup_candidates.proofs.Candidates.{fits-len, arrival-bad, arrival-ours, arrival-new}
use borrow.Author.Rules.{rules}
use Rattle.std.proofs.Common.{ap}
use mathlib.Core.Bool.{not}
use Rattle.lookup_candidates.proofs.arrival.Goals as goal

pub returns-then-not-id_fits : goal.returns-then-not-id_fits
returns-then-not-id_fits c = arrival-bad _ _ _ _ c.id_fits.ensures (ap not c.if-not-id_fits.true) c.no_candidate.ensures

pub newcomer-c-requires : goal.newcomer-c-requires
newcomer-c-requires c = fits-len c.args.id.now _ c.id_fits.ensures (ap not c.if-not-id_fits.false)

pub returns-then-same_bytes : goal.returns-then-same_bytes
returns-then-same_bytes c = arrival-ours _ _ _ _ c.id_fits.ensures (ap not c.if-not-id_fits.false) _ c.newcomer-c.ensures _ c.same_bytes.ensures c.if-same_bytes.true c.no_candidate-then-same_bytes.ensures

pub returns : goal.returns
returns c = arrival-new _ _ c.newcomer-c.result _ c.id_fits.ensures (ap not c.if-not-id_fits.false) _ c.newcomer-c.ensures _ c.same_bytes.ensures c.if-same_bytes.false
