-- `keep_framing` meets its contract. Assumes nothing.
use Rattle.host_state.specs.State.{answer_number, answer_framing}
use Rattle.host_numbers.proofs.Handing.{by-case}
use mathlib.Core.Path.{refl}
use borrow.Author.Rules.{rules}
use Rattle.host_state.proofs.keep_framing.Goals as goal
use mathlib.Core.Path.{ap, ◌∙◌}
use Rattle.std.specs.Prelude.{Ok}

pub returns-in-Ok-Reply : goal.returns-in-Ok-Reply
returns-in-Ok-Reply c = (by-case answer_number _ _ _ (c.in-Ok-Reply.is ∙ ap Ok (rw c.in-Ok-Reply.is at c.in-Ok-Reply.field-0-is)) refl, by-case (answer_framing _ c.args.f) _ _ _ (c.in-Ok-Reply.is ∙ ap Ok (rw c.in-Ok-Reply.is at c.in-Ok-Reply.field-0-is)) c.put_framing.ensures)

pub returns-in-Ok-Heard : goal.returns-in-Ok-Heard
returns-in-Ok-Heard c = (by-case answer_number _ _ _ (c.in-Ok-Heard.is ∙ ap Ok (rw c.in-Ok-Heard.is at c.in-Ok-Heard.field-0-is)) refl, by-case (answer_framing _ c.args.f) _ _ _ (c.in-Ok-Heard.is ∙ ap Ok (rw c.in-Ok-Heard.is at c.in-Ok-Heard.field-0-is)) c.put_framing-in-Ok-Heard.ensures)

pub returns-in-Err : goal.returns-in-Err
returns-in-Err c = (by-case answer_number _ _ _ c.in-Err.is c.refuse_on.ensures.0, by-case (answer_framing _ c.args.f) _ _ _ c.in-Err.is c.refuse_on.ensures.1)

pub returns-in-Ok-More : goal.returns-in-Ok-More
returns-in-Ok-More c = (by-case answer_number _ _ _ (c.in-Ok-More.is ∙ ap Ok (rw c.in-Ok-More.is at c.in-Ok-More.field-0-is)) refl, by-case (answer_framing _ c.args.f) _ _ _ (c.in-Ok-More.is ∙ ap Ok (rw c.in-Ok-More.is at c.in-Ok-More.field-0-is)) c.put_framing-in-Ok-More.ensures)
