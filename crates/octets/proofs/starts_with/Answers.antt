-- `starts_with` is what the library's method says, which compares the other way round.
use mathlib.Core.Path.{◌∙◌}
use Rattle.octets.proofs.Strings.{starts-pointwise}
use Rattle.octets.proofs.starts_with.Goals as goal

pub returns : goal.returns
returns c = c.starts_with.ensures.value ∙ starts-pointwise c.args.s.now c.args.p.now
