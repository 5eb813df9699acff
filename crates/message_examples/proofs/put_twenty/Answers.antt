use mathlib.Core.Path.{refl, ap, ◌∙◌}
use lib.ListN.{length}
use lib.Seq.{length-sets}
use native.Mathlib.Omega.{arith}
use Rattle.message_examples.proofs.put_twenty.Goals as goal

pub loop-k-init : goal.loop-k-init
loop-k-init c = (omega arith, refl)

pub loop-k-preserved : goal.loop-k-preserved
loop-k-preserved c = (omega arith, ap length c.copy.ensures ∙ simp length-sets c.loop-k.invariant.1)

pub shape_of-list : goal.shape_of-list
shape_of-list c = c.loop-k.invariant.1
