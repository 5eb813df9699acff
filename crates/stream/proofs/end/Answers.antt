-- `end` goes by the form and the framing's case. Assumes nothing.
use mathlib.Core.Path.{sym, ◌∙◌}
use borrow.Author.Tests.{not-true, not-false}
use Rattle.stream.proofs.Steps.{end-bad, end-good}
use borrow.Author.Rules.{rules}
use Rattle.stream.proofs.end.Goals as goal

pub returns-then-not-in_form : goal.returns-then-not-in_form
returns-then-not-in_form c = end-bad _ (sym c.in_form.ensures ∙ c.if-not-in_form.true)

pub returns-in-Shut : goal.returns-in-Shut
returns-in-Shut c = end-good _ _ _ (sym c.in_form.ensures ∙ c.if-not-in_form.false) c.in-Shut.is c.over.ensures

pub returns-in-Prefix : goal.returns-in-Prefix
returns-in-Prefix c = end-good _ _ _ (sym c.in_form.ensures ∙ c.if-not-in_form.false) c.in-Prefix.is c.end_prefix.ensures

pub returns-in-Body : goal.returns-in-Body
returns-in-Body c = end-good _ _ _ (sym c.in_form.ensures ∙ c.if-not-in_form.false) c.in-Body.is c.over-in-Body.ensures
