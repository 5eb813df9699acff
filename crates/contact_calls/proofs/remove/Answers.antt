-- `contact_calls::remove` meets its contract. Assumes nothing.
use mathlib.Core.Path.{sym, ◌∙◌}
use Rattle.std.proofs.lemmas.Result.{err_from_is_err_and}
use Rattle.contact_calls.proofs.Outcomes.{remove-bad, remove-taken}
use Rattle.contact_calls.proofs.remove.Goals as goal

pub returns-in_err-leaving : goal.returns-in_err-leaving
returns-in_err-leaving c =
    let p = err_from_is_err_and c.from_residual.result c.from_residual.ensures.1 in
    rw (p.1, p.2) (remove-bad c.args.table.now c.args.ours.now c.args.id.now _ (sym c.admit.ensures ∙ c.in_err-leaving.was))

pub returns : goal.returns
returns c = remove-taken c.args.table.now c.args.ours.now c.args.id.now _ (sym c.admit.ensures ∙ c.in_ok-leaving.was) _ _ c.remove.ensures
