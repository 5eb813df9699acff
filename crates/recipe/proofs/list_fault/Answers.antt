-- `list_fault` makes its tests in their order.
use mathlib.Core.Path.{◌∙◌}
use Rattle.recipe.proofs.Faults.{ends-early, starts-before, too_many, in-its-room}
use Rattle.recipe.proofs.list_fault.Goals as goal

pub returns-then-d-e : goal.returns-then-d-e
returns-then-d-e c = c.broken.ensures ∙ ends-early c.args.part c.args.value.now c.args.count c.args.d c.args.e c.if-d-e.true

pub returns-then-n-d : goal.returns-then-n-d
returns-then-n-d c = c.broken-then-n-d.ensures ∙ starts-before c.args.part c.args.value.now c.args.count c.args.d c.args.e c.if-d-e.false c.if-n-d.true

pub returns-then-count-gt-MOST_SETPOINTS : goal.returns-then-count-gt-MOST_SETPOINTS
returns-then-count-gt-MOST_SETPOINTS c = c.broken-then-count-gt-MOST_SETPOINTS.ensures ∙ too_many c.args.part c.args.value.now c.args.count c.args.d c.args.e c.if-d-e.false c.if-n-d.false c.if-count-gt-MOST_SETPOINTS.true

pub returns : goal.returns
returns c = c.bytes_fault.ensures ∙ in-its-room c.args.part c.args.value.now c.args.count c.args.d c.args.e c.if-d-e.false c.if-n-d.false c.if-count-gt-MOST_SETPOINTS.false
