use native.Mathlib.Omega.{arith}
use mir.Syntax.{w32}
use mir.Val.{SFits}
use borrow.Author.Rules.{rules}
use Rattle.recipe_fields.proofs.Taken.{taking, taken-all, taken-some, taken-size, taken-on}
use Rattle.recipe_fields.proofs.take_setpoints.Goals as goal

pub loop-i-init : goal.loop-i-init
loop-i-init c = taking c.args.s.now c.args.count c.args.turns.now c.args.trims.now c.requires

pub overflow_add-at : goal.overflow_add-at
overflow_add-at c = record { fits = omega (arith, taken-size c.args.s.now c.args.count c.args.turns.now c.args.trims.now c.loop-i.turns c.loop-i.trims c.loop-i.at c.loop-i.i c.loop-i.invariant (omega arith) c.point_at.ensures c.in-Some.is) }

pub loop-i-preserved : goal.loop-i-preserved
loop-i-preserved c = let f : SFits w32 c.in-Some.field-0.trim = search rules in taken-on c.args.s.now c.args.count c.args.turns.now c.args.trims.now c.loop-i.turns c.loop-i.trims c.loop-i.at c.loop-i.i c.loop-i.invariant (omega arith) c.point_at.ensures c.in-Some.is f c.set_turn.ensures c.set_trim.ensures

pub shape_of-turns-in_default : goal.shape_of-turns-in_default
shape_of-turns-in_default c = c.loop-i.invariant.turns-long

pub shape_of-trims-in_default : goal.shape_of-trims-in_default
shape_of-trims-in_default c = c.loop-i.invariant.trims-long

pub returns-in_default : goal.returns-in_default
returns-in_default c = absurd (taken-some c.args.s.now c.args.count c.args.turns.now c.args.trims.now c.loop-i.turns c.loop-i.trims c.loop-i.at c.loop-i.i c.loop-i.invariant (omega arith) c.point_at.ensures c.in_default.is)

pub shape_of-turns : goal.shape_of-turns
shape_of-turns c = c.loop-i.invariant.turns-long

pub shape_of-trims : goal.shape_of-trims
shape_of-trims c = c.loop-i.invariant.trims-long

pub returns : goal.returns
returns c = taken-all c.args.s.now c.args.count c.args.turns.now c.args.trims.now c.loop-i.turns c.loop-i.trims c.loop-i.at c.loop-i.i c.loop-i.invariant (omega arith)
