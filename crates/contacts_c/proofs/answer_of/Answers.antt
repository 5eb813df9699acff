-- `answer_of` goes by the case of the outcome.
use mathlib.Core.Path.{sym, ap, ◌∙◌}
use Rattle.contact_calls.specs.Calls.{seen_number}
use Rattle.contacts_c.specs.Codes.{named_by}
use borrow.Author.Rules.{rules}
use Rattle.contacts_c.proofs.answer_of.Goals as goal
use Rattle.std.specs.Prelude.{Ok}

pub returns-in-Ok-Probe : goal.returns-in-Ok-Probe
returns-in-Ok-Probe c = (c.number.ensures ∙ sym (ap seen_number (c.in-Ok-Probe.is ∙ ap Ok (rw c.in-Ok-Probe.is at c.in-Ok-Probe.field-0-is))), sym (ap named_by (c.in-Ok-Probe.is ∙ ap Ok (rw c.in-Ok-Probe.is at c.in-Ok-Probe.field-0-is))))

pub returns-in-Err : goal.returns-in-Err
returns-in-Err c = (c.number-in-Err.ensures ∙ sym (ap seen_number c.in-Err.is), sym (ap named_by c.in-Err.is))
