use native.Mathlib.Omega.{arith}
use Prim.Native.Nat.{ℕ, ◌-◌, ◌≤◌}
use mathlib.Core.Path.{◌≡◌, sym, ◌∙◌, subst}
use mathlib.Core.Bool.{true}
use borrow.Author.Tests.{not-true, not-false}
use Rattle.octets.specs.Search.{all}
use Rattle.octets.proofs.Searching.{all-zero, all_more, all-fails}
use Rattle.contact_form.specs.Inner.{entry_fits}
use Rattle.contact_form.proofs.entries_fit.Goals as goal

pub loop-k-init : goal.loop-k-init
loop-k-init c = (omega arith, all-zero (entry_fits c.args.table.now c.args.at.now))

pub entry_fits-requires : goal.entry_fits-requires
entry_fits-requires c = (c.requires.0, c.loop-k-test.true, c.requires.1)

pub returns-then-not-entry_fits : goal.returns-then-not-entry_fits
returns-then-not-entry_fits c = sym (all-fails (entry_fits c.args.table.now c.args.at.now) 5120 c.loop-k.k c.loop-k-test.true (sym c.entry_fits.ensures ∙ c.if-not-entry_fits.true))

pub loop-k-preserved : goal.loop-k-preserved
loop-k-preserved c = (omega arith, all_more (entry_fits c.args.table.now c.args.at.now) c.loop-k.k c.loop-k.invariant.1 (sym c.entry_fits.ensures ∙ c.if-not-entry_fits.false))

pub returns : goal.returns
returns c = let e : c.loop-k.k ≡ 5120 = omega arith in
    sym (subst (λ (n : ℕ). all n (entry_fits c.args.table.now c.args.at.now) ≡ true) e c.loop-k.invariant.1)
