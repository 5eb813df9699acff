-- `read` works out the places of a value that is a recipe.
use Rattle.std.proofs.lemmas.Result.{err_from_is_err_and}
use Rattle.recipe_fields.proofs.Places.{core-in, wrap-in, trailer-in, read-not, read-good, read_all}
use Rattle.recipe_fields.proofs.read.Goals as goal

pub returns-in_err-fault : goal.returns-in_err-fault
returns-in_err-fault c =
    let e = err_from_is_err_and c.from_residual.result c.from_residual.ensures.1 in
    read-not c.args.value.now c.fault.ensures e.1 e.2 c.in_err-fault.was

pub overflow_sub-core : goal.overflow_sub-core
overflow_sub-core c = core-in c.args.value.now (read-good c.args.value.now c.fault.ensures c.in_ok-fault.was) c.core_distance.ensures

pub overflow_sub-wrap : goal.overflow_sub-wrap
overflow_sub-wrap c = wrap-in c.args.value.now (read-good c.args.value.now c.fault.ensures c.in_ok-fault.was) c.distance.ensures

pub overflow_sub-trailer : goal.overflow_sub-trailer
overflow_sub-trailer c = trailer-in c.args.value.now (read-good c.args.value.now c.fault.ensures c.in_ok-fault.was) c.trailer_of.ensures c.format-format.ensures

pub returns : goal.returns
returns c = read_all c.args.value.now c.fault.ensures c.in_ok-fault.was c.format-format.ensures c.core_distance.ensures c.distance.ensures c.trailer_of.ensures c.core_count-cores.ensures c.count-wraps.ensures c.sequence-sequence.ensures
