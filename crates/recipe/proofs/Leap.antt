-- Laws of the leap rule on the machine's signed numbers: the difference of any two 32-bit trims is taken in 64 bits. Assumes nothing.
use Prim.Native.Nat.{ℕ, zero, suc, ◌+◌, ◌-◌, ◌^◌, ◌≤◌, ◌<◌}
use mathlib.Core.Path.{◌≡◌, refl, sym, ap, subst, ◌∙◌}
use mathlib.Core.Bool.{Bool, true, false}
use native.Mathlib.Omega.{arith}
use lib.Dec.{ltb, leb}
use lib.IntN.{ℤ, pos, negsuc, nat_abs, sub_ℕ, ◌-ℤ◌}
use lib.Signed.{lt_z, le_z, mag}
use mir.Syntax.{w32, w64}
use mir.Val.{to_z, of_z, SFits}
use mir.ValLaws.{to_z-of_z}
use borrow.Author.Tests.{lt-leb, le-leb, ltb-true, ltb-false}
use Rattle.octets.proofs.Bools.{not-both}
use Rattle.recipe.specs.Limits.{leap_max}
use Rattle.recipe.specs.Recipe.{no_leap}

-- ---- the difference of two 32-bit numbers fits 64 bits
sub-mag : (m n k : ℕ) → m < k → n < k → mag (sub_ℕ m n) < k
sub-mag m n k p q = go (ltb m n) refl
  where
    go : (x : Bool) → ltb m n ≡ x → mag (sub_ℕ m n) < k
    go true e = rw e (omega arith)
    go false e = rw e (omega arith)

diff-mag : (a b : ℤ) (k : ℕ) → mag a < k → mag b < k → mag (a -ℤ b) < k + k + 1
diff-mag (pos m) (pos zero) k p q = omega arith
diff-mag (pos m) (pos (suc n)) k p q = sub-mag m (suc n) (k + k + 1) (omega arith) (omega arith)
diff-mag (pos m) (negsuc n) k p q = omega arith
diff-mag (negsuc m) (pos zero) k p q = sub-mag 0 (suc m) (k + k + 1) (omega arith) (omega arith)
diff-mag (negsuc m) (pos (suc n)) k p q = omega arith
diff-mag (negsuc m) (negsuc n) k p q = sub-mag (suc n) (suc m) (k + k + 1) (omega arith) (omega arith)

-- ---- the two tests of `no_leap`
low : (z : ℤ) → lt_z z (negsuc (leap_max - 1)) ≡ true → leb (nat_abs z) leap_max ≡ false
low (pos n) h = absurd (not-both false h refl)
low (negsuc n) h = let l : leap_max - 1 < n = ltb-true (leap_max - 1) n h in lt-leb (suc n) leap_max (omega arith)

high : (z : ℤ) → lt_z z (negsuc (leap_max - 1)) ≡ false → le_z z (pos leap_max) ≡ leb (nat_abs z) leap_max
high (pos n) h = refl
high (negsuc n) h = let l : n ≤ leap_max - 1 = ltb-false (leap_max - 1) n h in sym (le-leb (suc n) leap_max (omega arith))

-- a trim, cast from 32 to 64 bits
abbrev up : ℤ → ℤ
up a = to_z w64 (of_z w64 (to_z w32 (of_z w32 a)))

pub leap-cast : (a : ℤ) → SFits w32 a → SFits w64 (to_z w32 (of_z w32 a))
leap-cast a f = rw (to_z-of_z w32 a f) (record { sfits = omega (arith, f.sfits) })

module _ (a b : ℤ) (fa : SFits w32 a) (fb : SFits w32 b) where
  up_is : (x : ℤ) → SFits w32 x → up x ≡ x
  up_is x f = to_z-of_z w64 (to_z w32 (of_z w32 x)) (leap-cast x f) ∙ to_z-of_z w32 x f

  diff : up a -ℤ up b ≡ a -ℤ b
  diff = ap (λ (x : ℤ). x -ℤ up b) (up_is a fa) ∙ ap (λ (x : ℤ). a -ℤ x) (up_is b fb)

  pub leap-sub : SFits w64 (up a -ℤ up b)
  leap-sub = rw diff (record { sfits = omega (arith, diff-mag a b (2 ^ 31) fa.sfits fb.sfits) })

  held : to_z w64 (of_z w64 (up a -ℤ up b)) ≡ a -ℤ b
  held = to_z-of_z w64 (up a -ℤ up b) leap-sub ∙ diff

  pub leap-below : lt_z (to_z w64 (of_z w64 (up a -ℤ up b))) (negsuc (leap_max - 1)) ≡ true → false ≡ no_leap a b
  unfolding no_leap
  leap-below h = sym (low (a -ℤ b) (subst (λ (z : ℤ). lt_z z (negsuc (leap_max - 1)) ≡ true) held h))

  pub leap-above : lt_z (to_z w64 (of_z w64 (up a -ℤ up b))) (negsuc (leap_max - 1)) ≡ false → le_z (to_z w64 (of_z w64 (up a -ℤ up b))) (pos leap_max) ≡ no_leap a b
  unfolding no_leap
  leap-above h = ap (λ (z : ℤ). le_z z (pos leap_max)) held ∙ high (a -ℤ b) (subst (λ (z : ℤ). lt_z z (negsuc (leap_max - 1)) ≡ false) held h)

-- trims in locals are what their bits say
pub leap-back : (a b : ℤ) → SFits w32 a → SFits w32 b → {r : Bool} → r ≡ no_leap (to_z w32 (of_z w32 a)) (to_z w32 (of_z w32 b)) → r ≡ no_leap a b
leap-back a b fa fb e = e ∙ ap (λ (x : ℤ). no_leap x (to_z w32 (of_z w32 b))) (to_z-of_z w32 a fa) ∙ ap (λ (x : ℤ). no_leap a x) (to_z-of_z w32 b fb)
