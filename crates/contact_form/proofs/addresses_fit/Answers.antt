use native.Mathlib.Omega.{arith}
use Prim.Native.Nat.{ℕ, ◌-◌, ◌≤◌}
use mathlib.Core.Path.{◌≡◌, sym, ◌∙◌, subst}
use mathlib.Core.Bool.{true}
use borrow.Author.Tests.{not-true, not-false}
use Rattle.octets.specs.Search.{all}
use Rattle.octets.proofs.Searching.{all-zero, all_more, all-fails}
use Rattle.contact_form.specs.Form.{address_fits}
use Rattle.contact_form.proofs.addresses_fit.Goals as goal

pub loop-k-init : goal.loop-k-init
loop-k-init c = (omega arith, all-zero (address_fits c.args.s.now))

pub returns-then-not-address_fits : goal.returns-then-not-address_fits
returns-then-not-address_fits c = sym (all-fails (address_fits c.args.s.now) c.args.count c.loop-k.k c.loop-k-test.true (sym c.address_fits.ensures ∙ c.if-not-address_fits.true))

pub loop-k-preserved : goal.loop-k-preserved
loop-k-preserved c = (omega arith, all_more (address_fits c.args.s.now) c.loop-k.k c.loop-k.invariant.1 (sym c.address_fits.ensures ∙ c.if-not-address_fits.false))

pub returns : goal.returns
returns c = let e : c.loop-k.k ≡ c.args.count = omega arith in
    sym (subst (λ (n : ℕ). all n (address_fits c.args.s.now) ≡ true) e c.loop-k.invariant.1)
