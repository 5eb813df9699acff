use Prim.Native.Nat.{◌-◌}
use mathlib.Core.Path.{◌≡◌}
use lib.ListN.{length}
use borrow.Author.Rules.{rules}
use Rattle.wire.specs.Wire.{fields_at}
use Rattle.wire.proofs.Scan.{next-is, nearer}
use Rattle.message.specs.Inner.{finished, gathered}
use Rattle.message.proofs.Gathering.{gather-start, gather-done, gather-stuck, gather-on, gather-broken}
use Rattle.message.proofs.gather.Goals as goal

pub loop-next-init : goal.loop-next-init
loop-next-init c = gather-start _

pub returns-in-Done : goal.returns-in-Done
returns-in-Done c = gather-done _ _ _ c.loop-next.invariant (next-is c.read_field-f.ensures c.after.ensures c.in-Done.is)

pub returns-in-Broken : goal.returns-in-Broken
returns-in-Broken c = gather-stuck _ _ _ c.loop-next.invariant (next-is c.read_field-f.ensures c.after.ensures c.in-Broken.is)

pub loop-next-smaller : goal.loop-next-smaller
loop-next-smaller c = nearer _ _ _ (next-is c.read_field-f.ensures c.after.ensures c.in-On.is)

pub loop-next-preserved : goal.loop-next-preserved
loop-next-preserved c = gather-on _ _ _ c.loop-next.invariant _ (next-is c.read_field-f.ensures c.after.ensures c.in-On.is) _ c.read_field-f.ensures _ c.with_field.ensures _ c.in_ok-m-in-On.was

pub returns-in_err-m-in-On : goal.returns-in_err-m-in-On
returns-in_err-m-in-On c = rw c.from_residual.ensures (gather-broken _ _ _ c.loop-next.invariant _ (next-is c.read_field-f.ensures c.after.ensures c.in-On.is) _ c.read_field-f.ensures _ c.with_field.ensures c.in_err-m-in-On.was)
