-- `same_bytes` is what the library's `==` says of two slices.
use mathlib.Core.Path.{◌∙◌}
use Rattle.octets.proofs.Strings.{same-pointwise}
use Rattle.octets.proofs.same_bytes.Goals as goal

pub returns : goal.returns
returns c = c.eq.ensures ∙ same-pointwise c.args.a.now c.args.b.now
