use mathlib.Core.Path.{refl, sym, ◌∙◌}
use Rattle.console.proofs.Going.{not_yet, goes, nearer, over}
use native.Mathlib.Omega.{arith}
use borrow.Author.Rules.{rules}
use Rattle.console.proofs.feed.Goals as goal

pub loop-from-init : goal.loop-from-init
loop-from-init c = (search rules, not_yet _ _, refl, refl, refl, refl)

pub loop-from-preserved : goal.loop-from-preserved
loop-from-preserved c = (omega arith, goes _ c.loop-from.from _ c.args.piece.now _ _ _ _ _ _ _ c.call-t.ensures c.onward-from.ensures.value (sym c.goes_on.ensures ∙ c.if-not-goes_on.false) _ c.loop-from.invariant.1, search rules, search rules, search rules, search rules)

pub loop-from-smaller : goal.loop-from-smaller
loop-from-smaller c = nearer _ c.loop-from.from _ c.args.piece.now _ _ _ _ _ _ _ c.call-t.ensures c.onward-from.ensures.value (sym c.goes_on.ensures ∙ c.if-not-goes_on.false) (omega arith)

pub returns : goal.returns
returns c = over _ _ c.loop-from.from c.args.piece.now _ _ (omega arith) c.loop-from.invariant.1
