-- `limit_fits`: test by test. Assumes nothing.
use Rattle.lookup.specs.Lookup.{limit_most}
use Rattle.lookup.proofs.Starting.{range-low, range-high}
use Rattle.lookup_in_place.proofs.limit_fits.Goals as goal

pub returns-then-limit-lt1 : goal.returns-then-limit-lt1
returns-then-limit-lt1 c = range-low c.args.limit limit_most c.if-limit-lt1.true

pub returns : goal.returns
returns c = range-high c.args.limit limit_most c.if-limit-lt1.false
