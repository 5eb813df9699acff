use lib.ListN.{length}
use mathlib.Core.Path.{◌≡◌, sym, ◌∙◌}
use native.Mathlib.Omega.{arith}
use Rattle.stream.proofs.Runs.{reading, read-on, read_off, read_out}
use Rattle.stream.proofs.read_prefix.Goals as goal

pub loop-i-init : goal.loop-i-init
loop-i-init c = reading _ _

pub returns-then-not-goes_on : goal.returns-then-not-goes_on
returns-then-not-goes_on c = read_off _ _ _ _ c.loop-i.invariant (omega arith) _ c.prefix_step-lead.ensures (sym c.goes_on.ensures ∙ c.if-not-goes_on.true)

pub loop-i-preserved : goal.loop-i-preserved
loop-i-preserved c = read-on _ _ _ _ c.loop-i.invariant (omega arith) _ c.prefix_step-lead.ensures _ (sym c.goes_on.ensures ∙ c.if-not-goes_on.false) c.held_of-h.ensures

pub returns : goal.returns
returns c =
    let e : c.loop-i.i ≡ length c.args.piece.now = omega arith in
    rw e at (read_out _ _ _ _ c.loop-i.invariant (omega arith))
