-- `well_made_at`: test by test. Assumes nothing.
use Rattle.lookup_in_place.proofs.Parts.{made-mark-of, made-empty-of, made-len-of}
use Rattle.flat_lookup.specs.FlatLookup.{candidate_at}
use borrow.Author.Rules.{rules}
use Rattle.lookup_in_place.proofs.len_at.Reads as len-at-reads
use Rattle.lookup_in_place.proofs.mark_at.Reads as mark-at-reads
use Rattle.lookup_in_place.proofs.well_made_at.Goals as goal

pub returns-then-mark-gt-FAILED : goal.returns-then-mark-gt-FAILED
returns-then-mark-gt-FAILED c = made-mark-of (candidate_at c.args.m.now c.args.i) _ c.mark_at-mark.ensures c.if-mark-gt-FAILED.true

pub returns-then-len-lt1 : goal.returns-then-len-lt1
returns-then-len-lt1 c = made-empty-of (candidate_at c.args.m.now c.args.i) _ c.mark_at-mark.ensures _ c.if-mark-gt-FAILED.false c.len_at-len.ensures c.if-len-lt1.true

pub returns : goal.returns
returns c = made-len-of (candidate_at c.args.m.now c.args.i) _ c.mark_at-mark.ensures _ c.if-mark-gt-FAILED.false c.len_at-len.ensures c.if-len-lt1.false
