use mathlib.Core.Path.{◌∙◌}
use native.Mathlib.Omega.{arith}
use mir.Syntax.{w32}
use mir.Val.{SFits}
use borrow.Author.Rules.{rules}
use Rattle.std.proofs.lemmas.Result.{err_from_is_err_and}
use Rattle.recipe.proofs.Faults.{handed-on, left-start, left-none, left-size, left-stop, left-on, left-good, left_over}
use Rattle.recipe.proofs.bytes_fault.Goals as goal

pub loop-i-init : goal.loop-i-init
loop-i-init c = left-start c.args.part c.args.s.now c.args.count

pub returns-in_err-setpoint_fault : goal.returns-in_err-setpoint_fault
returns-in_err-setpoint_fault c =
    let f : SFits w32 c.in-Some.field-0.trim = search rules in
    let e = err_from_is_err_and c.from_residual.result c.from_residual.ensures.1 in
    let w = c.in_err-setpoint_fault.was in
    handed-on e.1 e.2 w
    ∙ left-stop c.args.part c.args.s.now c.args.count c.loop-i.prev c.loop-i.at c.loop-i.i c.loop-i.invariant c.loop-i-test.true c.point_at.ensures c.in-Some.is f c.setpoint_fault.ensures w

pub overflow_add-at : goal.overflow_add-at
overflow_add-at c =
    record { fits = omega (arith, left-size c.args.part c.args.s.now c.args.count c.loop-i.prev c.loop-i.at c.loop-i.i c.loop-i.invariant c.loop-i-test.true c.point_at.ensures c.in-Some.is) }

pub returns-in_default : goal.returns-in_default
returns-in_default c =
    left-none c.args.part c.args.s.now c.args.count c.loop-i.prev c.loop-i.at c.loop-i.i c.loop-i.invariant c.loop-i-test.true c.point_at.ensures c.in_default.is c.broken.ensures

pub loop-i-preserved : goal.loop-i-preserved
loop-i-preserved c =
    let f : SFits w32 c.in-Some.field-0.trim = search rules in
    left-on c.args.part c.args.s.now c.args.count c.loop-i.prev c.loop-i.at c.loop-i.i c.loop-i.invariant c.loop-i-test.true c.point_at.ensures c.in-Some.is f c.setpoint_fault.ensures
    c.in_ok-setpoint_fault.was

pub returns-then-at-s : goal.returns-then-at-s
returns-then-at-s c = left-good c.args.part c.args.s.now c.args.count c.loop-i.prev c.loop-i.at c.loop-i.i c.loop-i.invariant c.loop-i-test.false c.if-at-s.true

pub returns : goal.returns
returns c = left_over c.args.part c.args.s.now c.args.count c.loop-i.prev c.loop-i.at c.loop-i.i c.loop-i.invariant c.loop-i-test.false c.if-at-s.false c.broken-2.ensures
