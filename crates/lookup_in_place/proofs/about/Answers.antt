-- `about`: each answer from the tests that lead there. Assumes nothing.
use Rattle.lookup_in_place.proofs.Steps.{room_in, marks-held, held-count, whom-none-in, whom-at-in}
use Rattle.lookup.proofs.Steps.{bad-own, bad-id, bad-place, good-peer, whom-form, whom-bad, whom-over}
use native.Mathlib.Omega.{arith}
use Rattle.flat_lookup.specs.FlatLookup.{lookup_in}
use borrow.Author.Rules.{rules}
use Rattle.lookup_candidates.proofs.id_fits.Reads as id-fits-reads
use Rattle.flat_lookup.proofs.count_in.Reads as count-in-reads
use Rattle.lookup_in_place.proofs.flyer.Reads as flyer-reads
use Rattle.lookup_in_place.proofs.in_form.Reads as in-form-reads
use Rattle.lookup_in_place.proofs.marks_in.Reads as marks-in-reads
use Rattle.lookup_marks.proofs.over.Reads as over_reads
use Rattle.octets.proofs.same_bytes.Reads as same-bytes-reads
use Rattle.sha256.proofs.hash.Reads as hash-reads
use Rattle.std.proofs.Common.{ap}
use mathlib.Core.Bool.{not}
use Rattle.lookup_in_place.proofs.about.Goals as goal

pub returns-then-not-in_form : goal.returns-then-not-in_form
returns-then-not-in_form c = whom-form (lookup_in c.args.m.now) _ _ _ _ c.in_form.ensures (ap not c.if-not-in_form.true)

pub returns-then-not-id_fits : goal.returns-then-not-id_fits
returns-then-not-id_fits c = whom-bad (lookup_in c.args.m.now) _ _ _ _ c.in_form.ensures (ap not c.if-not-in_form.false) (bad-own _ _ _ _ c.id_fits.ensures (ap not c.if-not-id_fits.true))

pub returns-then-not-id_fits-2 : goal.returns-then-not-id_fits-2
returns-then-not-id_fits-2 c = whom-bad (lookup_in c.args.m.now) _ _ _ _ c.in_form.ensures (ap not c.if-not-in_form.false) (bad-id _ _ _ _ c.id_fits.ensures (ap not c.if-not-id_fits.false) _ c.id_fits-2.ensures (ap not c.if-not-id_fits-2.true))

pub returns-then-same_bytes : goal.returns-then-same_bytes
returns-then-same_bytes c = whom-bad (lookup_in c.args.m.now) _ _ _ _ c.in_form.ensures (ap not c.if-not-in_form.false) (bad-place _ _ _ _ c.id_fits.ensures (ap not c.if-not-id_fits.false) _ c.id_fits-2.ensures (ap not c.if-not-id_fits-2.false) _ _ c.hash-place.ensures c.same_bytes.ensures c.if-same_bytes.true)

pub slice_bounds-marks-end : goal.slice_bounds-marks-end
slice_bounds-marks-end c = omega (arith, room_in c.args.m.now _ _ c.in_form.ensures (ap not c.if-not-in_form.false) c.count_in-n.ensures)

pub slice_bounds-held-end : goal.slice_bounds-held-end
slice_bounds-held-end c = held-count c.args.m.now _ _ c.count_in-n.ensures c.marks_in-marks.ensures (room_in c.args.m.now _ _ c.in_form.ensures (ap not c.if-not-in_form.false) c.count_in-n.ensures)

pub returns-then-over : goal.returns-then-over
returns-then-over c = whom-over (lookup_in c.args.m.now) _ _ _ _ c.in_form.ensures (ap not c.if-not-in_form.false) (good-peer _ _ _ _ c.id_fits.ensures (ap not c.if-not-id_fits.false) _ c.id_fits-2.ensures (ap not c.if-not-id_fits-2.false) _ _ c.hash-place.ensures c.same_bytes.ensures c.if-same_bytes.false) _ (marks-held c.args.m.now _ _ c.count_in-n.ensures c.marks_in-marks.ensures) _ c.over.ensures c.if-over.true

pub flyer-i-requires : goal.flyer-i-requires
flyer-i-requires c = (c.requires, room_in c.args.m.now _ _ c.in_form.ensures (ap not c.if-not-in_form.false) c.count_in-n.ensures)

pub returns-then-n-i : goal.returns-then-n-i
returns-then-n-i c = whom-none-in c.args.m.now _ _ _ _ c.in_form.ensures (ap not c.if-not-in_form.false) (good-peer _ _ _ _ c.id_fits.ensures (ap not c.if-not-id_fits.false) _ c.id_fits-2.ensures (ap not c.if-not-id_fits-2.false) _ _ c.hash-place.ensures c.same_bytes.ensures c.if-same_bytes.false) _ _ c.count_in-n.ensures (marks-held c.args.m.now _ _ c.count_in-n.ensures c.marks_in-marks.ensures) _ c.over.ensures c.if-over.false _ c.hash-place.ensures _ c.flyer-i.ensures c.if-n-i.true

pub returns : goal.returns
returns c = whom-at-in c.args.m.now _ _ _ _ c.in_form.ensures (ap not c.if-not-in_form.false) (good-peer _ _ _ _ c.id_fits.ensures (ap not c.if-not-id_fits.false) _ c.id_fits-2.ensures (ap not c.if-not-id_fits-2.false) _ _ c.hash-place.ensures c.same_bytes.ensures c.if-same_bytes.false) _ _ c.count_in-n.ensures (marks-held c.args.m.now _ _ c.count_in-n.ensures c.marks_in-marks.ensures) _ c.over.ensures c.if-over.false _ c.hash-place.ensures _ c.flyer-i.ensures c.if-n-i.false
