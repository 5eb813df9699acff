-- `lists_fault` judges the wrap, then the core.
use mathlib.Core.Path.{◌∙◌}
use Rattle.std.proofs.lemmas.Result.{err_from_is_err_and}
use Rattle.recipe.proofs.Faults.{handed-on, wrap-broken, wrap-good}
use Rattle.recipe.proofs.lists_fault.Goals as goal

pub returns-in_err-list_fault : goal.returns-in_err-list_fault
returns-in_err-list_fault c =
    let e = err_from_is_err_and c.from_residual.result c.from_residual.ensures.1 in
    handed-on e.1 e.2 c.in_err-list_fault.was ∙ wrap-broken c.args.value.now c.args.trailer c.count.ensures c.distance-d.ensures c.list_fault.ensures c.in_err-list_fault.was

pub returns : goal.returns
returns c = wrap-good c.args.value.now c.args.trailer c.count.ensures c.distance-d.ensures c.list_fault.ensures c.in_ok-list_fault.was c.core_count.ensures c.core_distance.ensures c.list_fault-2.ensures
