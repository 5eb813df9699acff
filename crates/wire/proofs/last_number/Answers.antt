use Prim.Native.Nat.{◌-◌}
use mathlib.Core.Path.{◌≡◌, refl}
use lib.ListN.{length}
use borrow.Author.Rules.{rules}
use Rattle.octets.specs.Search.{last_of}
use Rattle.wire.specs.Wire.{fields_at, numbers}
use Rattle.wire.proofs.Scan.{next-is, nearer, number-done, number-broken, number-on}
use Rattle.wire.proofs.last_number.Goals as goal

pub loop-next-init : goal.loop-next-init
loop-next-init c = refl

pub returns-in-Done : goal.returns-in-Done
returns-in-Done c = number-done _ _ _ _ _ c.loop-next.invariant (next-is c.read_field-f.ensures c.after.ensures c.in-Done.is)

pub returns-in-Broken : goal.returns-in-Broken
returns-in-Broken c = number-broken _ _ _ _ _ c.loop-next.invariant (next-is c.read_field-f.ensures c.after.ensures c.in-Broken.is)

pub loop-next-smaller : goal.loop-next-smaller
loop-next-smaller c = nearer _ _ _ (next-is c.read_field-f.ensures c.after.ensures c.in-On.is)

pub loop-next-preserved : goal.loop-next-preserved
loop-next-preserved c = number-on _ _ _ _ _ c.loop-next.invariant _ (next-is c.read_field-f.ensures c.after.ensures c.in-On.is) _ c.read_field-f.ensures _ c.value_or-last.ensures
