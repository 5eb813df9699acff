-- `pairs_fault` makes the tests of `pairs_fault` in their order.
use mathlib.Core.Path.{◌∙◌}
use native.Mathlib.Omega.{arith}
use Rattle.recipe_fields.proofs.Judging.{unpaired, too_many, by-points}
use Rattle.recipe_fields.proofs.pairs_fault.Goals as goal

pub returns-then-turns-trims : goal.returns-then-turns-trims
returns-then-turns-trims c = c.broken.ensures ∙ unpaired c.args.part c.args.turns.now c.args.trims.now (λ e. omega (arith, c.if-turns-trims.true))

pub returns-then-turns-gt-MOST_SETPOINTS : goal.returns-then-turns-gt-MOST_SETPOINTS
returns-then-turns-gt-MOST_SETPOINTS c = c.broken-then-turns-gt-MOST_SETPOINTS.ensures ∙ too_many c.args.part c.args.turns.now c.args.trims.now (omega arith) c.if-turns-gt-MOST_SETPOINTS.true

pub returns : goal.returns
returns c = c.points_fault.ensures ∙ by-points c.args.part c.args.turns.now c.args.trims.now (omega arith) c.if-turns-gt-MOST_SETPOINTS.false
