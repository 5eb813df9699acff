use Prim.Native.Nat.{◌-◌}
use mathlib.Core.Path.{◌≡◌, refl}
use lib.ListN.{length}
use borrow.Author.Rules.{rules}
use Rattle.wire.specs.Wire.{fields_at, spans, first_of}
use Rattle.wire.proofs.Scan.{next-is, found-is, nearer, none_done, none-broken, found, further}
use Rattle.wire.proofs.next_bytes.Goals as goal

pub loop-next-init : goal.loop-next-init
loop-next-init c = refl

pub returns-in-Done : goal.returns-in-Done
returns-in-Done c = none_done _ _ _ _ c.loop-next.invariant (next-is c.read_field-f.ensures c.after.ensures c.in-Done.is)

pub returns-in-Broken : goal.returns-in-Broken
returns-in-Broken c = none-broken _ _ _ _ c.loop-next.invariant (next-is c.read_field-f.ensures c.after.ensures c.in-Broken.is)

pub returns-in-Some : goal.returns-in-Some
returns-in-Some c = found _ _ _ _ c.loop-next.invariant _ (next-is c.read_field-f.ensures c.after.ensures c.in-On.is) _ (found-is _ c.read_field-f.ensures c.span_if.ensures c.in-Some.is)

pub loop-next-smaller : goal.loop-next-smaller
loop-next-smaller c = nearer _ _ _ (next-is c.read_field-f.ensures c.after.ensures c.in-On.is)

pub loop-next-preserved : goal.loop-next-preserved
loop-next-preserved c = further _ _ _ _ c.loop-next.invariant _ (next-is c.read_field-f.ensures c.after.ensures c.in-On.is) (found-is _ c.read_field-f.ensures c.span_if.ensures c.in-None.is)
