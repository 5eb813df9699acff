-- Laws of the zigzag form, and the steps of `trim_of` and `zigzag_of` on the machine's signed numbers. Assumes nothing.
use Prim.Native.Nat.{ℕ, zero, suc, ◌+◌, ◌-◌, ◌*◌, ◌/◌, ◌%◌, ◌^◌, ◌<◌}
use mathlib.Core.Path.{◌≡◌, refl, sym, ap, subst, ◌∙◌}
use mathlib.Core.Bool.{Bool, true, false}
use native.Mathlib.Omega.{arith}
use lib.Dec.{ltb, eqb, T}
use lib.IntN.{ℤ, pos, negsuc, nat_abs, ◌-ℤ◌}
use lib.Signed.{lt_z, non_neg}
use mir.Syntax.{w32}
use mir.Val.{to_z, of_z, SFits, Fits}
use mir.ValLaws.{to_z_pos, to_z-of_z}
use borrow.Author.Tests.{le-ltb, eqb-true, eqb-false, ne_eqb}
use Rattle.octets.proofs.Bools.{not-both}
use Rattle.recipe.specs.Recipe.{trim_of, zigzag_of}

-- ---- from the zigzag form to a trim and back: exact everywhere
pub trim-of-even : (z : ℕ) → z % 2 ≡ 0 → trim_of z ≡ pos (z / 2)
unfolding trim_of
trim-of-even z e = rw e

pub trim-of-odd : (z : ℕ) → (z % 2 ≡ 0 → ⊥) → trim_of z ≡ negsuc (z / 2)
unfolding trim_of
trim-of-odd z e = rw (ne_eqb (z % 2) 0 e)

pub zigzag-trim : (z : ℕ) → zigzag_of (trim_of z) ≡ z
unfolding zigzag_of
zigzag-trim z = go (eqb (z % 2) 0) refl
  where
    go : (t : Bool) → eqb (z % 2) 0 ≡ t → zigzag_of (trim_of z) ≡ z
    go true q = rw (trim-of-even z (eqb-true (z % 2) 0 q)) (omega (arith, eqb-true (z % 2) 0 q))
    go false q = let h = eqb-false (z % 2) 0 q in rw (trim-of-odd z h) (omega arith)

pub trim-zigzag : (t : ℤ) → trim_of (zigzag_of t) ≡ t
unfolding zigzag_of
trim-zigzag (pos n) =
    let e : n * 2 / 2 ≡ n = omega arith in
    trim-of-even (n * 2) (omega arith) ∙ ap pos e
trim-zigzag (negsuc n) =
    let e : (n * 2 + 1) / 2 ≡ n = omega arith in
    let o : (n * 2 + 1) % 2 ≡ 1 = omega arith in
    trim-of-odd (n * 2 + 1) (λ q. omega arith) ∙ ap negsuc e

minus_pos : (h : ℕ) → negsuc 0 -ℤ pos h ≡ negsuc h
minus_pos zero = refl
minus_pos (suc n) = let e : suc (0 + n) ≡ suc n = omega arith in ap negsuc e

minus-neg : (n : ℕ) → negsuc 0 -ℤ negsuc n ≡ pos n
minus-neg n = let e : suc n - 1 ≡ n = omega arith in rw (le-ltb (suc n) 1 (omega arith)) (ap pos e)

-- ---- the steps of `trim_of`
module _ (z : ℕ) (f : z < 2 ^ 32) where
  half : to_z w32 (z / 2) ≡ pos (z / 2)
  half = to_z_pos w32 (z / 2) (omega arith)

  pub trim-even : z % 2 ≡ 0 → to_z w32 (z / 2) ≡ trim_of z
  trim-even e = half ∙ sym (trim-of-even z e)

  odd : negsuc 0 -ℤ to_z w32 (z / 2) ≡ negsuc (z / 2)
  odd = rw half (minus_pos (z / 2))

  pub trim-fits : SFits w32 (negsuc 0 -ℤ to_z w32 (z / 2))
  trim-fits = rw odd (record { sfits = omega arith })

  pub trim-odd : (z % 2 ≡ 0 → ⊥) → to_z w32 (of_z w32 (negsuc 0 -ℤ to_z w32 (z / 2))) ≡ trim_of z
  trim-odd e = to_z-of_z w32 (negsuc 0 -ℤ to_z w32 (z / 2)) trim-fits ∙ odd ∙ sym (trim-of-odd z e)

-- ---- the steps of `zigzag_of`
pub record Neg (t : ℤ) : Type 0 where
  pub n : ℕ
  pub is : t ≡ negsuc n
  pub low : n < 2 ^ 31
  pub flip : negsuc 0 -ℤ to_z w32 (of_z w32 t) ≡ pos n
  pub held : to_z w32 (of_z w32 (negsuc 0 -ℤ to_z w32 (of_z w32 t))) ≡ pos n

pub record Pos (t : ℤ) : Type 0 where
  pub n : ℕ
  pub is : t ≡ pos n
  pub low : n < 2 ^ 31
  pub held : to_z w32 (of_z w32 t) ≡ pos n

pub neg : (t : ℤ) → SFits w32 t → lt_z (to_z w32 (of_z w32 t)) (pos 0) ≡ true → Neg t
neg t f e = go t f (subst (λ (x : ℤ). lt_z x (pos 0) ≡ true) (to_z-of_z w32 t f) e)
  where
    go : (t : ℤ) → SFits w32 t → lt_z t (pos 0) ≡ true → Neg t
    go (pos n) f e = absurd (not-both (ltb n 0) e (le-ltb n 0 (omega arith)))
    go (negsuc n) f e =
        let a : negsuc 0 -ℤ to_z w32 (of_z w32 (negsuc n)) ≡ pos n = ap (λ (x : ℤ). negsuc 0 -ℤ x) (to_z-of_z w32 (negsuc n) f) ∙ minus-neg n in
        record { n = n; is = refl; low = f.sfits; flip = a; held = ap (λ (x : ℤ). to_z w32 (of_z w32 x)) a ∙ to_z_pos w32 n f.sfits }

pub nonneg : (t : ℤ) → SFits w32 t → lt_z (to_z w32 (of_z w32 t)) (pos 0) ≡ false → Pos t
nonneg t f e = go t f (subst (λ (x : ℤ). lt_z x (pos 0) ≡ false) (to_z-of_z w32 t f) e)
  where
    go : (t : ℤ) → SFits w32 t → lt_z t (pos 0) ≡ false → Pos t
    go (pos n) f e = record { n = n; is = refl; low = f.sfits; held = to_z-of_z w32 (pos n) f }
    go (negsuc n) f e = absurd (not-both true refl e)

module _ (t : ℤ) (g : Neg t) where
  pub neg-sub : SFits w32 (negsuc 0 -ℤ to_z w32 (of_z w32 t))
  neg-sub = rw g.flip (record { sfits = g.low })

  pub neg-cast : T (non_neg (to_z w32 (of_z w32 (negsuc 0 -ℤ to_z w32 (of_z w32 t))))) × Fits w32 (nat_abs (to_z w32 (of_z w32 (negsuc 0 -ℤ to_z w32 (of_z w32 t)))))
  neg-cast = rw g.held (tt, record { fits = omega (arith, g.low) })

  pub neg-mul : Fits w32 (nat_abs (to_z w32 (of_z w32 (negsuc 0 -ℤ to_z w32 (of_z w32 t)))) * 2)
  neg-mul = rw g.held (record { fits = omega (arith, g.low) })

  pub neg-add : Fits w32 (nat_abs (to_z w32 (of_z w32 (negsuc 0 -ℤ to_z w32 (of_z w32 t)))) * 2 + 1)
  neg-add = rw g.held (record { fits = omega (arith, g.low) })

  pub neg_is : nat_abs (to_z w32 (of_z w32 (negsuc 0 -ℤ to_z w32 (of_z w32 t)))) * 2 + 1 ≡ zigzag_of t
  unfolding zigzag_of
  neg_is = rw g.held (sym (ap zigzag_of g.is))

module _ (t : ℤ) (g : Pos t) where
  pub pos-cast : T (non_neg (to_z w32 (of_z w32 t))) × Fits w32 (nat_abs (to_z w32 (of_z w32 t)))
  pos-cast = rw g.held (tt, record { fits = omega (arith, g.low) })

  pub pos-mul : Fits w32 (nat_abs (to_z w32 (of_z w32 t)) * 2)
  pos-mul = rw g.held (record { fits = omega (arith, g.low) })

  pub pos-is : nat_abs (to_z w32 (of_z w32 t)) * 2 ≡ zigzag_of t
  unfolding zigzag_of
  pos-is = rw g.held (sym (ap zigzag_of g.is))
