-- `setpoints` cuts the core or the wrap out of a value that is a recipe.
use mathlib.Core.Path.{◌∙◌}
use mathlib.Core.Path.{sym, ◌∙◌}
use Rattle.recipe.proofs.Trailer.{our-recipe}
use Rattle.recipe_fields.proofs.Places.{core-in, wrap-in, trailer-in}
use Rattle.recipe_fields.proofs.Taken.{none-taken, core-before, core-list, core-taken, wrap-before, wrap-list, wrap-taken}
use Rattle.recipe_fields.proofs.setpoints.Goals as goal

pub returns-then-not-check : goal.returns-then-not-check
returns-then-not-check c = none-taken c.args.value.now (sym c.check.ensures ∙ c.if-not-check.true) c.args.core c.args.turns.now c.args.trims.now

pub overflow_sub-wrap : goal.overflow_sub-wrap
overflow_sub-wrap c = wrap-in c.args.value.now (our-recipe c.args.value.now (sym c.check.ensures ∙ c.if-not-check.false)) c.distance.ensures

pub overflow_sub-start : goal.overflow_sub-start
overflow_sub-start c = core-in c.args.value.now (our-recipe c.args.value.now (sym c.check.ensures ∙ c.if-not-check.false)) c.core_distance.ensures

pub slice_bounds-take_setpoints-count : goal.slice_bounds-take_setpoints-count
slice_bounds-take_setpoints-count c = core-before c.args.value.now (sym c.check.ensures ∙ c.if-not-check.false) c.distance.ensures c.core_distance.ensures

pub slice_bounds-take_setpoints-start : goal.slice_bounds-take_setpoints-start
slice_bounds-take_setpoints-start c = core-before c.args.value.now (sym c.check.ensures ∙ c.if-not-check.false) c.distance.ensures c.core_distance.ensures

pub take_setpoints-requires : goal.take_setpoints-requires
take_setpoints-requires c = core-list c.args.value.now (sym c.check.ensures ∙ c.if-not-check.false) c.distance.ensures c.core_distance.ensures c.core_count-count.ensures

pub returns-then-core : goal.returns-then-core
returns-then-core c = core-taken c.args.value.now (sym c.check.ensures ∙ c.if-not-check.false) c.distance.ensures c.core_distance.ensures c.core_count-count.ensures c.args.core c.if-core.true c.args.turns.now c.args.trims.now c.take_setpoints.ensures

pub overflow_sub-end : goal.overflow_sub-end
overflow_sub-end c = trailer-in c.args.value.now (our-recipe c.args.value.now (sym c.check.ensures ∙ c.if-not-check.false)) c.trailer_of.ensures c.format.ensures

pub slice_bounds-take_setpoints-count-2 : goal.slice_bounds-take_setpoints-count-2
slice_bounds-take_setpoints-count-2 c = wrap-before c.args.value.now (sym c.check.ensures ∙ c.if-not-check.false) c.distance.ensures c.format.ensures c.trailer_of.ensures

pub slice_bounds-take_setpoints-start-2 : goal.slice_bounds-take_setpoints-start-2
slice_bounds-take_setpoints-start-2 c = wrap-before c.args.value.now (sym c.check.ensures ∙ c.if-not-check.false) c.distance.ensures c.format.ensures c.trailer_of.ensures

pub take_setpoints-requires-2 : goal.take_setpoints-requires-2
take_setpoints-requires-2 c = wrap-list c.args.value.now (sym c.check.ensures ∙ c.if-not-check.false) c.distance.ensures c.format.ensures c.trailer_of.ensures c.count-count.ensures

pub returns : goal.returns
returns c = wrap-taken c.args.value.now (sym c.check.ensures ∙ c.if-not-check.false) c.distance.ensures c.format.ensures c.trailer_of.ensures c.count-count.ensures c.args.core c.if-core.false c.args.turns.now c.args.trims.now c.take_setpoints-2.ensures
