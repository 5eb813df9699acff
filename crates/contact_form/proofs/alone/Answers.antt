use native.Mathlib.Omega.{arith}
use borrow.Author.Rules.{rules}
use Prim.Native.Nat.{ℕ, ◌+◌, ◌-◌, ◌≤◌}
use mathlib.Core.Path.{◌≡◌, sym, ◌∙◌, subst}
use mathlib.Core.Bool.{true}
use borrow.Author.Tests.{not-true, not-false}
use Rattle.octets.specs.Search.{all}
use Rattle.octets.proofs.Searching.{all-zero, all_more, all-fails}
use Rattle.contact_form.specs.Inner.{other_before}
use Rattle.contact_form.proofs.alone.Goals as goal

pub loop-d-init : goal.loop-d-init
loop-d-init c = (omega arith, all-zero (other_before c.args.table.now c.args.mine.now c.args.at.now c.args.k))

pub other_place-requires : goal.other_place-requires
other_place-requires c = (c.requires.0, c.words_of-w.ensures, c.requires.3 (c.args.k - (c.loop-d.d + 1)))

pub returns-then-not-other_place : goal.returns-then-not-other_place
unfolding other_before
returns-then-not-other_place c = sym (all-fails (other_before c.args.table.now c.args.mine.now c.args.at.now c.args.k) c.args.m c.loop-d.d c.loop-d-test.true (sym c.other_place.ensures ∙ c.if-not-other_place.true))

pub loop-d-preserved : goal.loop-d-preserved
unfolding other_before
loop-d-preserved c = (omega arith, all_more (other_before c.args.table.now c.args.mine.now c.args.at.now c.args.k) c.loop-d.d c.loop-d.invariant.1 (sym c.other_place.ensures ∙ c.if-not-other_place.false))

pub returns : goal.returns
returns c = let e : c.loop-d.d ≡ c.args.m = omega arith in
    sym (subst (λ (n : ℕ). all n (other_before c.args.table.now c.args.mine.now c.args.at.now c.args.k) ≡ true) e c.loop-d.invariant.1)
