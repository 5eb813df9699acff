-- `receive` refuses 0, 1 and 2 in this order, and goes on by the framing's case. Assumes nothing.
use mathlib.Core.Path.{refl, sym, ap, ◌∙◌}
use native.Mathlib.Omega.{arith}
use borrow.Author.Tests.{not-true, not-false}
use Rattle.stream.specs.Stream.{in_form}
use Rattle.stream.proofs.Runs.{gives-body}
use Rattle.stream.proofs.Steps.{gives-bad, gives-small, gives-shut, gives-run, body-short}
use borrow.Author.Rules.{rules}
use Rattle.stream.proofs.receive.Goals as goal

pub returns-then-not-in_form : goal.returns-then-not-in_form
returns-then-not-in_form c = gives-bad _ _ _ _ (sym c.in_form.ensures ∙ c.if-not-in_form.true) c.stay.ensures

pub returns-then-buffer-lt-MOST_BODY : goal.returns-then-buffer-lt-MOST_BODY
returns-then-buffer-lt-MOST_BODY c = gives-small _ _ _ _ (sym c.in_form.ensures ∙ c.if-not-in_form.false) c.if-buffer-lt-MOST_BODY.true c.stay-then-buffer-lt-MOST_BODY.ensures

pub read_body-requires : goal.read_body-requires
read_body-requires c = (body-short _ _ (ap in_form (sym c.in-Body.is) ∙ sym c.in_form.ensures ∙ c.if-not-in_form.false), omega arith)

pub returns-in-Shut : goal.returns-in-Shut
returns-in-Shut c = gives-shut _ _ _ _ (sym c.in_form.ensures ∙ c.if-not-in_form.false) c.if-buffer-lt-MOST_BODY.false c.in-Shut.is c.stay-in-Shut.ensures

pub returns-in-Prefix : goal.returns-in-Prefix
returns-in-Prefix c = gives-run _ _ _ _ _ _ (sym c.in_form.ensures ∙ c.if-not-in_form.false) c.if-buffer-lt-MOST_BODY.false refl c.in-Prefix.is c.read_message.ensures

pub returns-in-Body : goal.returns-in-Body
returns-in-Body c = gives-run _ _ _ _ _ _ (sym c.in_form.ensures ∙ c.if-not-in_form.false) c.if-buffer-lt-MOST_BODY.false refl c.in-Body.is (gives-body _ _ _ _ _ _ c.read_body.ensures)
