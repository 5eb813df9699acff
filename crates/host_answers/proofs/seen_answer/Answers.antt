-- `seen_answer` meets its contract. Assumes nothing.
use Rattle.contact_calls.specs.Calls.{seen_number}
use Rattle.host_answers.specs.Answers.{seen_numbers}
use Rattle.host_numbers.proofs.Handing.{by-case}
use mathlib.Core.Path.{refl}
use borrow.Author.Rules.{rules}
use Rattle.host_answers.proofs.seen_answer.Goals as goal
use mathlib.Core.Path.{ap, ◌∙◌}
use Rattle.std.specs.Prelude.{Ok}

pub returns-in-Ok-Moved : goal.returns-in-Ok-Moved
returns-in-Ok-Moved c = (by-case seen_number _ _ _ (c.in-Ok-Moved.is ∙ ap Ok (rw c.in-Ok-Moved.is at c.in-Ok-Moved.field-0-is)) refl, by-case (seen_numbers _) _ _ _ (c.in-Ok-Moved.is ∙ ap Ok (rw c.in-Ok-Moved.is at c.in-Ok-Moved.field-0-is)) c.put_number.ensures)

pub returns-in-Ok-Joined : goal.returns-in-Ok-Joined
returns-in-Ok-Joined c = (by-case seen_number _ _ _ (c.in-Ok-Joined.is ∙ ap Ok (rw c.in-Ok-Joined.is at c.in-Ok-Joined.field-0-is)) refl, by-case (seen_numbers _) _ _ _ (c.in-Ok-Joined.is ∙ ap Ok (rw c.in-Ok-Joined.is at c.in-Ok-Joined.field-0-is)) c.put_number-in-Ok-Joined.ensures)

pub returns-in-Ok-Probe : goal.returns-in-Ok-Probe
returns-in-Ok-Probe c = (by-case seen_number _ _ _ (c.in-Ok-Probe.is ∙ ap Ok (rw c.in-Ok-Probe.is at c.in-Ok-Probe.field-0-is)) c.code_of.ensures, by-case (seen_numbers _) _ _ _ (c.in-Ok-Probe.is ∙ ap Ok (rw c.in-Ok-Probe.is at c.in-Ok-Probe.field-0-is)) c.put_number-in-Ok-Probe.ensures)

pub returns-in-Err : goal.returns-in-Err
returns-in-Err c = (by-case seen_number _ _ _ c.in-Err.is c.code_of-in-Err.ensures, by-case (seen_numbers _) _ _ _ c.in-Err.is refl)
