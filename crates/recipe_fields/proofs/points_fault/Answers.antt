use mathlib.Core.Path.{◌∙◌}
use native.Mathlib.Omega.{arith}
use lib.IntN.{pos}
use lib.ListN.{get_or}
use Rattle.std.proofs.lemmas.Result.{err_from_is_err_and}
use Rattle.recipe.proofs.Faults.{handed-on}
use Rattle.recipe_fields.proofs.Steps.{held, judging, judged-all, judged-stop, judged-on}
use Rattle.recipe_fields.proofs.points_fault.Goals as goal

pub loop-i-init : goal.loop-i-init
loop-i-init c = judging c.args.part c.args.turns.now c.args.trims.now

pub returns-in_err-setpoint_fault : goal.returns-in_err-setpoint_fault
returns-in_err-setpoint_fault c =
    let e = err_from_is_err_and c.from_residual.result c.from_residual.ensures.1 in
    handed-on e.1 e.2 c.in_err-setpoint_fault.was
    ∙ judged-stop c.args.part c.args.turns.now c.args.trims.now c.loop-i.prev c.loop-i.i c.loop-i.invariant (omega arith) (omega arith) (held (get_or c.args.trims.now c.loop-i.i (pos 0)) c.trim-1.given) c.setpoint_fault.ensures c.in_err-setpoint_fault.was

pub loop-i-preserved : goal.loop-i-preserved
loop-i-preserved c = judged-on c.args.part c.args.turns.now c.args.trims.now c.loop-i.prev c.loop-i.i c.loop-i.invariant (omega arith) (omega arith) (held (get_or c.args.trims.now c.loop-i.i (pos 0)) c.trim-1.given) c.setpoint_fault.ensures c.in_ok-setpoint_fault.was

pub returns : goal.returns
returns c = judged-all c.args.part c.args.turns.now c.args.trims.now c.loop-i.prev c.loop-i.i c.loop-i.invariant (omega arith)
