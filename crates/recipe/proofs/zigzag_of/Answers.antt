-- `zigzag_of` doubles; a trim below zero is turned first.
use Rattle.recipe.proofs.Zigzag.{neg, nonneg, neg-sub, neg-cast, neg-mul, neg-add, neg_is, pos-cast, pos-mul, pos-is}
use Rattle.recipe.proofs.zigzag_of.Goals as goal

pub overflow_sub-h : goal.overflow_sub-h
overflow_sub-h c = neg-sub c.args.t (neg c.args.t c.ranges.t c.if-t-lt0.true)

pub overflow_cast-h : goal.overflow_cast-h
overflow_cast-h c = neg-cast c.args.t (neg c.args.t c.ranges.t c.if-t-lt0.true)

pub overflow_mul-result : goal.overflow_mul-result
overflow_mul-result c = neg-mul c.args.t (neg c.args.t c.ranges.t c.if-t-lt0.true)

pub overflow_add-result : goal.overflow_add-result
overflow_add-result c = neg-add c.args.t (neg c.args.t c.ranges.t c.if-t-lt0.true)

pub returns-then-t-lt0 : goal.returns-then-t-lt0
returns-then-t-lt0 c = neg_is c.args.t (neg c.args.t c.ranges.t c.if-t-lt0.true)

pub overflow_cast-h-2 : goal.overflow_cast-h-2
overflow_cast-h-2 c = pos-cast c.args.t (nonneg c.args.t c.ranges.t c.if-t-lt0.false)

pub overflow_mul-result-2 : goal.overflow_mul-result-2
overflow_mul-result-2 c = pos-mul c.args.t (nonneg c.args.t c.ranges.t c.if-t-lt0.false)

pub returns : goal.returns
returns c = pos-is c.args.t (nonneg c.args.t c.ranges.t c.if-t-lt0.false)
