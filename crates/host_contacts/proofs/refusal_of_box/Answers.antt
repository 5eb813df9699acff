-- `host_contacts::refusal_of_box` meets its contract. Assumes nothing.
use mathlib.Core.Path.{sym, ◌∙◌}
use Rattle.host_contacts.proofs.Hosting.{box-form, box-broken}
use borrow.Author.Rules.{rules}
use Rattle.host_contacts.proofs.refusal_of_box.Goals as goal

pub returns-then-in_form : goal.returns-then-in_form
returns-then-in_form c = box-form _ _ (sym c.in_form.ensures ∙ c.if-in_form.true)

pub returns : goal.returns
returns c = box-broken _ _ (sym c.in_form.ensures ∙ c.if-in_form.false)
