-- `is_view`: the reader's own, compared. Assumes nothing.
use mathlib.Core.Path.{sym, ap, ◌∙◌}
use borrow.Author.Rules.{rules}
use Rattle.parts.specs.Parts.{is_reading}
use Rattle.parts.proofs.Same.{derived-same, view-is}
use Rattle.parts.proofs.is_view.Goals as goal
use Rattle.std.specs.Prelude.{Result}
use Rattle.message.specs.declared.Fields.{Fields}
use Rattle.refusal.specs.declared.Refusal.{Refusal}

pub returns-in-Ok : goal.returns-in-Ok
returns-in-Ok c = view-is c.args.body.now c.args.at _ _ c.read.ensures (c.eq.ensures ∙ derived-same c.in-Ok.m c.args.at ∙ ap (λ (x : Result Fields Refusal). is_reading x c.args.at) (sym c.in-Ok.is))

pub returns-in-Err : goal.returns-in-Err
returns-in-Err c = view-is c.args.body.now c.args.at _ _ c.read.ensures (ap (λ (x : Result Fields Refusal). is_reading x c.args.at) (sym c.in-Err.is))
