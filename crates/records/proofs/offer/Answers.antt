-- `offer` does what the plan says.
use native.Mathlib.Omega.{arith}
use mathlib.Core.Path.{ap, ◌∙◌}
use Rattle.std.specs.Prelude.{Ok}
use Rattle.std.proofs.lemmas.Result.{err_from_is_err_and}
use Rattle.records.proofs.Putting.{write-fits, plan-is, offer-write, offer-keep, offer-refuse}
use Rattle.records.proofs.offer.Goals as goal

pub returns-in_err-i : goal.returns-in_err-i
returns-in_err-i c =
    let p = err_from_is_err_and c.from_residual.result c.from_residual.ensures.1 in
    rw (p.1, p.2) (offer-refuse c.args.store.now c.args.key.now c.args.value.now c.plan_put.ensures (c.in_err-i.was))

pub overflow_mul-i : goal.overflow_mul-i
overflow_mul-i c = omega (arith, (write-fits c.args.store.now c.args.key.now c.args.value.now c.in-Some.i (plan-is c.args.store.now c.args.key.now c.args.value.now c.plan_put.ensures (c.in_ok-i.was ∙ ap Ok c.in-Some.is))).inside)

pub write_slot-requires : goal.write_slot-requires
write_slot-requires c = write-fits c.args.store.now c.args.key.now c.args.value.now c.in-Some.i (plan-is c.args.store.now c.args.key.now c.args.value.now c.plan_put.ensures (c.in_ok-i.was ∙ ap Ok c.in-Some.is))

pub returns-in-Some : goal.returns-in-Some
returns-in-Some c = offer-write c.args.store.now c.args.key.now c.args.value.now c.plan_put.ensures (c.in_ok-i.was ∙ ap Ok c.in-Some.is) c.write_slot.ensures

pub returns-in_default : goal.returns-in_default
returns-in_default c = offer-keep c.args.store.now c.args.key.now c.args.value.now c.plan_put.ensures (c.in_ok-i.was ∙ ap Ok c.in_default.is)
