use native.Mathlib.Omega.{arith}
use mathlib.Core.Path.{refl, ap, ◌∙◌}
use lib.ListN.{length}
use lib.Seq.{length-sets}
use Rattle.recipe_examples.proofs.put_points.Goals as goal

pub loop-i-init : goal.loop-i-init
loop-i-init c = refl

pub loop-i-preserved : goal.loop-i-preserved
loop-i-preserved c = ap length c.copy.ensures ∙ simp length-sets c.loop-i.invariant

pub shape_of-buf : goal.shape_of-buf
shape_of-buf c = c.loop-i.invariant
