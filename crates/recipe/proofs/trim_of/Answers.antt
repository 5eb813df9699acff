-- `trim_of` halves, and turns the odd ones below zero.
use Rattle.recipe.proofs.Zigzag.{trim-even, trim-fits, trim-odd}
use Rattle.recipe.proofs.trim_of.Goals as goal

pub returns-then-z-eq0 : goal.returns-then-z-eq0
returns-then-z-eq0 c = trim-even c.args.z c.ranges.z.fits c.if-z-eq0.true

pub overflow_sub-result : goal.overflow_sub-result
overflow_sub-result c = trim-fits c.args.z c.ranges.z.fits

pub returns : goal.returns
returns c = trim-odd c.args.z c.ranges.z.fits c.if-z-eq0.false
