-- `contact_calls::settle` meets its contract. Assumes nothing.
use mathlib.Core.Path.{sym, ◌∙◌}
use Rattle.std.proofs.lemmas.Result.{err_from_is_err_and}
use Rattle.contact_calls.proofs.Outcomes.{settle-bad-head, settle-bad, settle-client, settle-taken}
use Rattle.contact_calls.proofs.settle.Goals as goal

pub returns-in_err-from : goal.returns-in_err-from
returns-in_err-from c =
    let p = err_from_is_err_and c.from_residual.result c.from_residual.ensures.1 in
    rw (p.1, p.2) (settle-bad-head c.args.table.now c.args.ours.now c.args.head.now c.args.id.now c.args.client c.args.addresses.now c.args.answered _ (sym c.admit.ensures ∙ c.in_err-from.was))

pub returns-in_err-newcomer : goal.returns-in_err-newcomer
returns-in_err-newcomer c =
    let p = err_from_is_err_and c.from_residual-in_err-newcomer.result c.from_residual-in_err-newcomer.ensures.1 in
    rw (p.1, p.2) (settle-bad c.args.table.now c.args.ours.now c.args.head.now c.args.id.now c.args.client c.args.addresses.now c.args.answered _ (sym c.admit.ensures ∙ c.in_ok-from.was) _ (sym c.judge.ensures ∙ c.in_err-newcomer.was))

pub returns-then-client : goal.returns-then-client
returns-then-client c = settle-client c.args.table.now c.args.ours.now c.args.head.now c.args.id.now c.args.client c.args.addresses.now c.args.answered _ (sym c.admit.ensures ∙ c.in_ok-from.was) _ (sym c.judge.ensures ∙ c.in_ok-newcomer.was) c.if-client.true _ _ c.still_fits.ensures c.client_outcome.ensures

pub returns : goal.returns
returns c = settle-taken c.args.table.now c.args.ours.now c.args.head.now c.args.id.now c.args.client c.args.addresses.now c.args.answered _ (sym c.admit.ensures ∙ c.in_ok-from.was) _ (sym c.judge.ensures ∙ c.in_ok-newcomer.was) c.if-client.false _ _ _ c.peer_of.ensures c.settle.ensures
