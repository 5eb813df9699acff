-- `settle`: the marks side by side, then over or not. Assumes nothing.
use Rattle.lookup_in_place.proofs.Steps.{marks-held, held-count}
use Rattle.lookup.proofs.Steps.{settle-over, settle-going}
use Rattle.lookup.specs.Lookup.{ends, gives}
use Rattle.lookup.specs.declared.Answer.TheVariants.{Going}
use native.Mathlib.Omega.{arith}
use mathlib.Core.Path.{ap, refl, ◌∙◌}
use Rattle.flat_lookup.specs.FlatLookup.{lookup_in}
use Rattle.lookup_in_place.specs.InPlace.{outcome_of}
use borrow.Author.Rules.{rules}
use Rattle.flat_lookup.proofs.count_in.Reads as count-in-reads
use Rattle.lookup_in_place.proofs.end.Reads as end_reads
use Rattle.lookup_in_place.proofs.give.Reads as give-reads
use Rattle.lookup_in_place.proofs.marks_in.Reads as marks-in-reads
use Rattle.lookup_marks.proofs.over.Reads as over_reads
use Rattle.lookup_in_place.proofs.settle.Goals as goal
use Rattle.std.specs.Prelude.{Ok}

pub slice_bounds-held-end : goal.slice_bounds-held-end
slice_bounds-held-end c = held-count c.args.m.now _ _ c.count_in-n.ensures c.marks_in-marks.ensures (omega (arith, c.count_in-n.ensures, c.requires.1))

pub end-requires : goal.end-requires
end-requires c = (c.requires.0, marks-held c.args.m.now _ _ c.count_in-n.ensures c.marks_in-marks.ensures)

pub returns-then-over : goal.returns-then-over
returns-then-over c = c.end.ensures ∙ ap outcome_of (settle-over (lookup_in c.args.m.now) _ (marks-held c.args.m.now _ _ c.count_in-n.ensures c.marks_in-marks.ensures) _ c.over.ensures (ends (lookup_in c.args.m.now)) c.if-over.true refl)

pub returns : goal.returns
returns c = c.give.ensures ∙ ap outcome_of (settle-going (lookup_in c.args.m.now) _ (marks-held c.args.m.now _ _ c.count_in-n.ensures c.marks_in-marks.ensures) _ c.over.ensures (gives (lookup_in c.args.m.now) (Ok Going)) c.if-over.false refl)
