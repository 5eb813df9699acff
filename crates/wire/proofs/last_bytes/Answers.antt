use Prim.Native.Nat.{◌-◌}
use mathlib.Core.Path.{◌≡◌, refl, sym, ◌∙◌}
use lib.ListN.{length}
use borrow.Author.Rules.{rules}
use Rattle.octets.specs.Search.{last_of}
use Rattle.wire.specs.Wire.{fields_at, spans}
use Rattle.wire.proofs.Scan.{last_on, last_done, last_less}
use Rattle.wire.proofs.last_bytes.Goals as goal

pub loop-p-init : goal.loop-p-init
loop-p-init c = refl

pub loop-p-smaller : goal.loop-p-smaller
loop-p-smaller c = last_less _ _ _ _ (sym c.next_bytes.ensures ∙ c.in-Some.is)

pub loop-p-preserved : goal.loop-p-preserved
loop-p-preserved c = last_on _ _ _ _ _ _ c.loop-p.invariant _ (sym c.next_bytes.ensures ∙ c.in-Some.is)

pub returns-in-None : goal.returns-in-None
returns-in-None c = last_done _ _ _ _ _ _ c.loop-p.invariant (sym c.next_bytes.ensures ∙ c.in-None.is)
