-- `contact_calls::client_outcome` meets its contract. Assumes nothing.
use mathlib.Core.Path.{sym}
use Rattle.octets.proofs.Bools.{cond_yes, cond_no}
use Rattle.contact_calls.specs.Inner.{client_outcome}
use Rattle.contact_calls.proofs.client_outcome.Goals as goal

pub returns-then-fit : goal.returns-then-fit
unfolding client_outcome
returns-then-fit c = sym (cond_yes c.args.fit _ _ c.if-fit.true)

pub returns-else-fit : goal.returns-else-fit
unfolding client_outcome
returns-else-fit c = sym (cond_no c.args.fit _ _ c.if-fit.false)
