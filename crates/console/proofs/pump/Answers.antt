use mathlib.Core.Path.{sym, ap, ◌∙◌}
use Rattle.console.specs.Console.{goes_on}
use Rattle.console.proofs.pump.Goals as goal

pub returns-then-not-goes_on : goal.returns-then-not-goes_on
returns-then-not-goes_on c = sym c.goes_on.ensures ∙ c.if-not-goes_on.true

pub returns : goal.returns
returns c = ap goes_on c.stopped.ensures
