-- `contact_calls::seen` meets its contract. Assumes nothing.
use mathlib.Core.Path.{refl, sym, ◌∙◌}
use Rattle.std.proofs.lemmas.Result.{err_from_is_err_and}
use Rattle.contact_calls.proofs.Outcomes.{seen-bad, seen-client, seen-taken}
use Rattle.contact_calls.proofs.seen.Goals as goal

pub returns-in_err-place : goal.returns-in_err-place
returns-in_err-place c =
    let p = err_from_is_err_and c.from_residual.result c.from_residual.ensures.1 in
    rw (p.1, p.2) (seen-bad c.args.table.now c.args.ours.now c.args.id.now c.args.client c.args.addresses.now _ (sym c.admit.ensures ∙ c.in_err-place.was))

pub returns-then-client : goal.returns-then-client
returns-then-client c = seen-client c.args.table.now c.args.ours.now c.args.id.now c.args.client c.args.addresses.now _ (sym c.admit.ensures ∙ c.in_ok-place.was) c.if-client.true

pub returns : goal.returns
returns c = seen-taken c.args.table.now c.args.ours.now c.args.id.now c.args.client c.args.addresses.now _ (sym c.admit.ensures ∙ c.in_ok-place.was) c.if-client.false _ _ _ refl c.see.ensures
