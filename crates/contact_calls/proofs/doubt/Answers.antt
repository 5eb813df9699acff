-- `contact_calls::doubt` meets its contract. Assumes nothing.
use mathlib.Core.Path.{sym, ◌∙◌}
use Rattle.std.proofs.lemmas.Result.{err_from_is_err_and}
use Rattle.contact_calls.proofs.Outcomes.{doubt-bad, doubt-taken}
use Rattle.contact_calls.proofs.doubt.Goals as goal

pub returns-in_err-doubtful : goal.returns-in_err-doubtful
returns-in_err-doubtful c =
    let p = err_from_is_err_and c.from_residual.result c.from_residual.ensures.1 in
    rw (p.1, p.2) (doubt-bad c.args.table.now c.args.ours.now c.args.id.now _ (sym c.admit.ensures ∙ c.in_err-doubtful.was))

pub returns : goal.returns
returns c = doubt-taken c.args.table.now c.args.ours.now c.args.id.now _ (sym c.admit.ensures ∙ c.in_ok-doubtful.was) _ _ c.doubt.ensures
