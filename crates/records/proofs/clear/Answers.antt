use native.Mathlib.Omega.{arith}
use Prim.Native.Nat.{◌-◌}
use Rattle.records.proofs.Writing.{Clearing, clearing, clear-on, cleared}
use Rattle.records.proofs.clear.Goals as goal

pub loop-i-init : goal.loop-i-init
loop-i-init c = clearing _ _ _

pub overflow_add-buf : goal.overflow_add-buf
overflow_add-buf c = omega (arith, c.requires, c.loop-i.invariant.kept)

pub bounds-buf-at : goal.bounds-buf-at
bounds-buf-at c = omega (arith, c.requires, c.loop-i.invariant.kept)

pub loop-i-preserved : goal.loop-i-preserved
loop-i-preserved c = clear-on _ _ _ _ _ c.loop-i.invariant (omega arith)

pub shape_of-buf : goal.shape_of-buf
shape_of-buf c = c.loop-i.invariant.kept

pub returns : goal.returns
returns c = cleared _ _ _ _ _ c.loop-i.invariant (omega arith)
