-- `fault` tests the value as a whole, then its lists.
use mathlib.Core.Path.{sym, ◌∙◌}
use Rattle.recipe.proofs.Faults.{under-16, over-most, not_known, under-24, not-zero, by-lists}
use Rattle.recipe.proofs.fault.Goals as goal

pub returns-then-n-lt-TRAILER : goal.returns-then-n-lt-TRAILER
returns-then-n-lt-TRAILER c = c.broken.ensures ∙ under-16 c.args.value.now c.if-n-lt-TRAILER.true

pub returns-then-n-gt-MOST_VALUE : goal.returns-then-n-gt-MOST_VALUE
returns-then-n-gt-MOST_VALUE c = c.broken-then-n-gt-MOST_VALUE.ensures ∙ over-most c.args.value.now c.if-n-lt-TRAILER.false c.if-n-gt-MOST_VALUE.true

pub returns-then-not-is_known : goal.returns-then-not-is_known
returns-then-not-is_known c = c.broken-then-not-is_known.ensures ∙ not_known c.args.value.now c.if-n-lt-TRAILER.false c.if-n-gt-MOST_VALUE.false c.format-f.ensures (sym c.is_known.ensures ∙ c.if-not-is_known.true)

pub returns-then-n-trailer : goal.returns-then-n-trailer
returns-then-n-trailer c = c.broken-then-n-trailer.ensures ∙ under-24 c.args.value.now c.if-n-lt-TRAILER.false c.if-n-gt-MOST_VALUE.false c.format-f.ensures (sym c.is_known.ensures ∙ c.if-not-is_known.false) c.trailer_of-trailer.ensures c.if-n-trailer.true

pub returns-then-pad-ne0 : goal.returns-then-pad-ne0
returns-then-pad-ne0 c = c.broken-then-pad-ne0.ensures ∙ not-zero c.args.value.now c.if-n-lt-TRAILER.false c.if-n-gt-MOST_VALUE.false c.format-f.ensures (sym c.is_known.ensures ∙ c.if-not-is_known.false) c.trailer_of-trailer.ensures c.if-n-trailer.false c.pad.ensures c.if-pad-ne0.true

pub returns : goal.returns
returns c = c.lists_fault.ensures ∙ by-lists c.args.value.now c.if-n-lt-TRAILER.false c.if-n-gt-MOST_VALUE.false c.format-f.ensures (sym c.is_known.ensures ∙ c.if-not-is_known.false) c.trailer_of-trailer.ensures c.if-n-trailer.false c.pad.ensures c.if-pad-ne0.false
