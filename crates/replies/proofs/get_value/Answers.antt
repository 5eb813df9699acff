-- `get_value`: the contacts, and the record if it is held.
use native.Mathlib.Omega.{arith}
use mathlib.Core.Path.{sym, ◌∙◌}
use Rattle.replies.proofs.Whole.{framed_is, near-few, near-long, get-held, get_none, get_refused}
use Rattle.replies.proofs.Serving.{held-lies, value-short}
use borrow.Author.Rules.{rules}
use Rattle.replies.proofs.get_value.Goals as goal
use mathlib.Core.Path.{ap}
use Rattle.std.specs.Prelude.{Ok}

pub slice_bounds-reply_held-count : goal.slice_bounds-reply_held-count
slice_bounds-reply_held-count c = omega (arith, (held-lies _ _ _ _ (sym c.look.ensures ∙ (c.in-Ok-Some.is ∙ ap Ok c.in-Ok-Some.field-0-is))).ordered)

pub slice_bounds-reply_held-start : goal.slice_bounds-reply_held-start
slice_bounds-reply_held-start c = omega (arith, (held-lies _ _ _ _ (sym c.look.ensures ∙ (c.in-Ok-Some.is ∙ ap Ok c.in-Ok-Some.field-0-is))).ordered)

pub slice_bounds-reply_held-end : goal.slice_bounds-reply_held-end
slice_bounds-reply_held-end c = omega (arith, (held-lies _ _ _ _ (sym c.look.ensures ∙ (c.in-Ok-Some.is ∙ ap Ok c.in-Ok-Some.field-0-is))).ends, (held-lies _ _ _ _ (sym c.look.ensures ∙ (c.in-Ok-Some.is ∙ ap Ok c.in-Ok-Some.field-0-is))).ordered)

pub reply_held-requires : goal.reply_held-requires
reply_held-requires c = (omega (arith, near-few _ _ _ c.nearest-near.ensures), omega (arith, near-long _ _ _ c.nearest-near.ensures), c.requires, value-short _ _ _ _ (held-lies _ _ _ _ (sym c.look.ensures ∙ (c.in-Ok-Some.is ∙ ap Ok c.in-Ok-Some.field-0-is))))

pub reply_closer-requires : goal.reply_closer-requires
reply_closer-requires c = (omega (arith, near-few _ _ _ c.nearest-near.ensures), omega (arith, near-long _ _ _ c.nearest-near.ensures), omega arith)

pub returns-in-Ok-Some : goal.returns-in-Ok-Some
returns-in-Ok-Some c = framed_is _ _ _ _ _ (get-held c.args.table.now c.args.records.now c.args.key.now _ _ c.place_of-target.ensures c.nearest-near.ensures _ _ (sym c.look.ensures ∙ (c.in-Ok-Some.is ∙ ap Ok c.in-Ok-Some.field-0-is))) c.reply_held.ensures

pub reply_closer-requires-in-Err : goal.reply_closer-requires-in-Err
reply_closer-requires-in-Err c = (omega (arith, near-few _ _ _ c.nearest-near.ensures), omega (arith, near-long _ _ _ c.nearest-near.ensures), omega arith)

pub returns-in-Ok-None : goal.returns-in-Ok-None
returns-in-Ok-None c = framed_is _ _ _ _ _ (get_none c.args.table.now c.args.records.now c.args.key.now _ _ c.place_of-target.ensures c.nearest-near.ensures (sym c.look.ensures ∙ (c.in-Ok-None.is ∙ ap Ok c.in-Ok-None.field-0-is))) c.reply_closer.ensures

pub returns-in-Err : goal.returns-in-Err
returns-in-Err c = framed_is _ _ _ _ _ (get_refused c.args.table.now c.args.records.now c.args.key.now _ _ c.place_of-target.ensures c.nearest-near.ensures _ (sym c.look.ensures ∙ c.in-Err.is)) c.reply_closer-in-Err.ensures
