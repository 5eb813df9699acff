-- `next_answer`: each answer from the tests that lead there. Assumes nothing.
use Rattle.lookup_in_place.proofs.Steps.{room_in, marks-held, held-count, next-full-in, next-ask-in, next-wait-in}
use Rattle.lookup.proofs.Steps.{next-bad, next-over}
use Rattle.lookup.specs.Lookup.{refuses, ends}
use Rattle.refusal.specs.declared.Refusal.TheVariants.{OutOfForm}
use native.Mathlib.Omega.{arith}
use mathlib.Core.Path.{ap, refl, ◌∙◌}
use Rattle.flat_lookup.specs.FlatLookup.{lookup_in}
use Rattle.lookup_in_place.specs.InPlace.{outcome_of}
use borrow.Author.Rules.{rules}
use Rattle.flat_lookup.proofs.number.Reads as number-reads
use Rattle.flat_lookup.proofs.count_in.Reads as count-in-reads
use Rattle.lookup_in_place.proofs.end.Reads as end_reads
use Rattle.lookup_in_place.proofs.give.Reads as give-reads
use Rattle.lookup_in_place.proofs.in_form.Reads as in-form-reads
use Rattle.lookup_in_place.proofs.marks_in.Reads as marks-in-reads
use Rattle.lookup_marks.proofs.idle.Reads as idle-reads
use Rattle.lookup_marks.proofs.in_flight.Reads as in-flight-reads
use Rattle.lookup_marks.proofs.over.Reads as over_reads
use mathlib.Core.Bool.{not}
use Rattle.lookup_in_place.proofs.next_answer.Goals as goal

pub returns-then-not-in_form : goal.returns-then-not-in_form
returns-then-not-in_form c = c.give.ensures ∙ ap outcome_of (next-bad (lookup_in c.args.m.now) _ c.in_form.ensures (refuses (lookup_in c.args.m.now) OutOfForm) (ap not c.if-not-in_form.true) refl)

pub slice_bounds-marks-end : goal.slice_bounds-marks-end
slice_bounds-marks-end c = omega (arith, room_in c.args.m.now _ _ c.in_form.ensures (ap not c.if-not-in_form.false) c.count_in-n.ensures)

pub slice_bounds-held-end : goal.slice_bounds-held-end
slice_bounds-held-end c = held-count c.args.m.now _ _ c.count_in-n.ensures c.marks_in-marks.ensures (room_in c.args.m.now _ _ c.in_form.ensures (ap not c.if-not-in_form.false) c.count_in-n.ensures)

pub end-requires : goal.end-requires
end-requires c = (c.requires, marks-held c.args.m.now _ _ c.count_in-n.ensures c.marks_in-marks.ensures)

pub returns-then-over : goal.returns-then-over
returns-then-over c = c.end.ensures ∙ ap outcome_of (next-over (lookup_in c.args.m.now) _ c.in_form.ensures (ends (lookup_in c.args.m.now)) (ap not c.if-not-in_form.false) _ (marks-held c.args.m.now _ _ c.count_in-n.ensures c.marks_in-marks.ensures) _ c.over.ensures c.if-over.true refl)

pub returns-then-limit-in_flight : goal.returns-then-limit-in_flight
returns-then-limit-in_flight c = c.give-then-limit-in_flight.ensures ∙ next-full-in c.args.m.now _ _ _ _ _ _ c.in_form.ensures (ap not c.if-not-in_form.false) c.count_in-n.ensures (marks-held c.args.m.now _ _ c.count_in-n.ensures c.marks_in-marks.ensures) c.over.ensures c.if-over.false c.number-limit.ensures.0 c.in_flight.ensures c.if-limit-in_flight.true

pub returns-then-i-n : goal.returns-then-i-n
returns-then-i-n c = c.give-then-i-n.ensures ∙ next-ask-in c.args.m.now _ _ _ _ _ _ c.in_form.ensures (ap not c.if-not-in_form.false) c.count_in-n.ensures (marks-held c.args.m.now _ _ c.count_in-n.ensures c.marks_in-marks.ensures) c.over.ensures c.if-over.false c.number-limit.ensures.0 c.in_flight.ensures c.if-limit-in_flight.false _ c.idle-i.ensures c.if-i-n.true

pub returns : goal.returns
returns c = c.give-2.ensures ∙ next-wait-in c.args.m.now _ _ _ _ _ _ c.in_form.ensures (ap not c.if-not-in_form.false) c.count_in-n.ensures (marks-held c.args.m.now _ _ c.count_in-n.ensures c.marks_in-marks.ensures) c.over.ensures c.if-over.false c.number-limit.ensures.0 c.in_flight.ensures c.if-limit-in_flight.false _ c.idle-i.ensures c.if-i-n.false
