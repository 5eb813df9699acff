use mathlib.Core.Path.{◌∙◌}
use Rattle.lookup_in_place.proofs.Arrivals.{moved}
use Rattle.lookup_in_place.proofs.make_gap.Goals as goal

pub returns : goal.returns
returns c = c.copy_within.ensures.after ∙ moved c.args.m.now c.args.a c.args.e c.requires.0 c.requires.1
