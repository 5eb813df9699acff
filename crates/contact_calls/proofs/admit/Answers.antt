-- `contact_calls::admit` meets its contract. Assumes nothing.
use mathlib.Core.Path.{sym, ◌∙◌}
use Rattle.contact_calls.proofs.Outcomes.{admit-form, admit-judged}
use Rattle.contact_calls.proofs.admit.Goals as goal

pub returns-then-not-in_form : goal.returns-then-not-in_form
returns-then-not-in_form c = admit-form c.args.table.now c.args.ours.now c.args.id.now (sym c.in_form.ensures ∙ c.if-not-in_form.true)

pub returns : goal.returns
returns c = c.judge.ensures ∙ admit-judged c.args.table.now c.args.ours.now c.args.id.now (sym c.in_form.ensures ∙ c.if-not-in_form.false)
