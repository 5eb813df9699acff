-- `setpoint_fault` makes its four tests in their order.
use mathlib.Core.Path.{sym, ap, ◌∙◌}
use mir.Syntax.{w32}
use mir.ValLaws.{to_z-of_z}
use Rattle.recipe.specs.Faults.{trim_in, stays}
use Rattle.recipe.proofs.Faults.{too-high, not-rising, out_of_range, leaps, good-setpoint}
use Rattle.recipe.proofs.setpoint_fault.Goals as goal

pub returns-then-turn-gt-TURN_MAX : goal.returns-then-turn-gt-TURN_MAX
returns-then-turn-gt-TURN_MAX c = c.broken.ensures ∙ too-high c.args.part c.args.i c.args.p c.args.turn c.args.trim c.if-turn-gt-TURN_MAX.true

pub returns-then-not-rises : goal.returns-then-not-rises
returns-then-not-rises c = c.broken-then-not-rises.ensures ∙ not-rising c.args.part c.args.i c.args.p c.args.turn c.args.trim c.if-turn-gt-TURN_MAX.false (sym c.rises.ensures ∙ c.if-not-rises.true)

pub returns-then-not-in_range : goal.returns-then-not-in_range
returns-then-not-in_range c = let back = to_z-of_z w32 c.args.trim c.ranges.trim in
    c.broken-then-not-in_range.ensures
    ∙ out_of_range c.args.part c.args.i c.args.p c.args.turn c.args.trim c.if-turn-gt-TURN_MAX.false (sym c.rises.ensures ∙ c.if-not-rises.false)
    (ap trim_in (sym back) ∙ sym c.in_range.ensures ∙ c.if-not-in_range.true)

pub returns-then-not-stays : goal.returns-then-not-stays
returns-then-not-stays c = let back = to_z-of_z w32 c.args.trim c.ranges.trim in
    c.broken-then-not-stays.ensures
    ∙ leaps c.args.part c.args.i c.args.p c.args.turn c.args.trim c.if-turn-gt-TURN_MAX.false (sym c.rises.ensures ∙ c.if-not-rises.false)
    (ap trim_in (sym back) ∙ sym c.in_range.ensures ∙ c.if-not-in_range.false)
    (ap (stays c.args.p) (sym back) ∙ sym c.stays.ensures ∙ c.if-not-stays.true)

pub returns : goal.returns
returns c = let back = to_z-of_z w32 c.args.trim c.ranges.trim in
    good-setpoint c.args.part c.args.i c.args.p c.args.turn c.args.trim c.if-turn-gt-TURN_MAX.false (sym c.rises.ensures ∙ c.if-not-rises.false)
    (ap trim_in (sym back) ∙ sym c.in_range.ensures ∙ c.if-not-in_range.false)
    (ap (stays c.args.p) (sym back) ∙ sym c.stays.ensures ∙ c.if-not-stays.false)
