-- The rank is a strict total order on values: of two that differ exactly one ranks higher, and rank goes over. Assumes nothing.
use Prim.Native.Nat.{ℕ, ◌≤◌, ◌<◌}
use mathlib.Core.Path.{◌≡◌, refl, sym, ◌∙◌}
use mathlib.Core.List.{List}
use mathlib.Core.Bool.{Bool, true, false}
use native.Mathlib.Omega.{arith}
use Rattle.octets.specs.Octets.{lower}
use Rattle.octets.proofs.Bools.{not-both, to-false}
use Rattle.octets.proofs.Strings.{before-less, before_same, before_more, before-asym, before-trans, before-total, lower-asym, lower-trans, lower-total}
use Rattle.recipe.specs.Recipe.{sequence_of, outranks}

pub outranks-asym : (a b : List ℕ) → outranks a b ≡ true → outranks b a ≡ true → ⊥
unfolding outranks
outranks-asym a b p q = before-asym (sequence_of b) (sequence_of a) (lower b a) (lower a b) (lower-asym b a) p q

pub outranks-trans : (a b c : List ℕ) → outranks a b ≡ true → outranks b c ≡ true → outranks a c ≡ true
unfolding outranks
outranks-trans a b c p q =
    before-trans (sequence_of c) (sequence_of b) (sequence_of a) (lower c b) (lower b a) (lower c a) (lower-trans c b a) q p

pub outranks-total : (a b : List ℕ) → outranks a b ≡ false → outranks b a ≡ false → a ≡ b
unfolding outranks
outranks-total a b p q =
    let t = before-total (sequence_of b) (sequence_of a) (lower b a) (lower a b) p q in sym (lower-total b a t.1 t.2)

pub outranks-self : (a : List ℕ) → outranks a a ≡ false
outranks-self a = to-false (outranks a a) (λ h. outranks-asym a a h h)

-- that one doesn't rank higher goes over too
pub outranked-not : (a b c : List ℕ) → outranks a b ≡ false → outranks b c ≡ false → outranks a c ≡ false
outranked-not a b c p q = to-false (outranks a c) (λ h. go h (outranks b a) refl)
  where
    go : outranks a c ≡ true → (x : Bool) → outranks b a ≡ x → ⊥
    go h true r = not-both (outranks b c) (outranks-trans b a c r h) q
    go h false r = not-both (outranks b c) (rw (outranks-total a b p r) at h) q

-- ---- the steps of `outranks`
module _ (a b : List ℕ) {x y : ℕ} (ex : x ≡ sequence_of a) (ey : y ≡ sequence_of b) where
  pub rank-more : y < x → true ≡ outranks a b
  unfolding outranks
  rank-more h = sym (before-less (sequence_of b) (sequence_of a) (lower b a) (omega arith))

  pub rank_less : x < y → false ≡ outranks a b
  unfolding outranks
  rank_less h = sym (before_more (sequence_of b) (sequence_of a) (lower b a) (omega arith))

  pub rank_same : x ≤ y → y ≤ x → {r : Bool} → r ≡ lower b a → r ≡ outranks a b
  unfolding outranks
  rank_same p q e = e ∙ sym (before_same (sequence_of b) (sequence_of a) (lower b a) (omega arith))
