-- No varint is shorter than the minimal one of its value. Assumes nothing.
use Prim.Native.Nat.{ℕ, zero, suc, ◌+◌, ◌-◌, ◌*◌, ◌^◌, ◌≤◌, ◌<◌}
use mathlib.Core.Path.{◌≡◌, refl, subst}
use mathlib.Core.List.{List, [], ◌∷◌}
use mathlib.Core.Bool.{Bool, true, false, cond}
use native.Mathlib.Omega.{arith}
use native.Mathlib.Nat.{pow-suc}
use lib.ListN.{length}
use lib.Dec.{ltb}
use borrow.Author.Tests.{ltb-true}
use Rattle.octets.specs.Octets.{Bytes}
use Rattle.octets.proofs.Bools.{cond_ind}
use Rattle.wire.specs.Wire.{before, varint, placed, varint_at}
use Rattle.wire.specs.Items.{digits, minimal}
use Rattle.wire_put.proofs.Digits.{digits-short}
use Rattle.std.specs.Prelude.{Some, None, Option}
use Rattle.std.proofs.lemmas.Option.{some_pair_parts}

-- a varint of n bytes has a value of at most 7 n bits, so the minimal one is no longer
record Bounded (v n : ℕ) : Type 0 where
  pub less : ℕ
  pub size : n ≡ suc less
  pub bound : v < 128 ^ suc less

value-bounded : (k : ℕ) (s : List ℕ) (v n : ℕ) → Bytes s → varint k s ≡ Some (v, n) → Bounded v n
unfolding varint before
value-bounded zero s v n w e = absurd (let z : ◌≡◌ {A = ℕ} 0 1 = cc in omega arith)
value-bounded (suc k) [] v n w e = absurd (let z : ◌≡◌ {A = ℕ} 0 1 = cc in omega arith)
value-bounded (suc k) (b ∷ s) v n w e = go (ltb b 128) refl (varint k s) refl e (λ x m. value-bounded k s x m (λ i. w (suc i)))
  where
    go : (t : Bool) → ltb b 128 ≡ t → (r : Option (ℕ × ℕ)) → varint k s ≡ r → cond t (Some (b, 1)) (before b r) ≡ Some (v, n)
        → ((x m : ℕ) → varint k s ≡ Some (x, m) → Bounded x m) → Bounded v n
    go true t r q f ih =
        let p = some_pair_parts b v 1 n f in
        let x : b ≡ v = p.0 in
        let y : 1 ≡ n = p.1 in
        record { less = 0; size = omega arith; bound = omega (arith, ltb-true b 128 t) }
    go false t (Some (x, m)) q f ih =
        let i = ih x m q in
        let p = some_pair_parts (b - 128 + 128 * x) v (suc m) n f in
        let y : b - 128 + 128 * x ≡ v = p.0 in
        let z : suc m ≡ n = p.1 in
        record { less = suc i.less; size = omega (arith, i.size); bound = omega (arith, i.bound, w 0, pow-suc 128 (suc i.less)) }
    go false t None q f ih = absurd (let z : ◌≡◌ {A = ℕ} 0 1 = cc in omega arith)

pub shortest : (s : List ℕ) (v n : ℕ) → Bytes s → varint_at s 0 ≡ Some (v, n) → length (minimal v) ≤ n
unfolding varint_at placed minimal
shortest s v n w e = go (varint 10 s) refl e
  where
    go : (r : Option (ℕ × ℕ)) → varint 10 s ≡ r → placed 0 r ≡ Some (v, n) → length (digits 10 v) ≤ n
    go (Some (x, m)) q f =
        cond_ind (λ (y : Option (ℕ × ℕ)). y ≡ Some (v, n) → length (digits 10 v) ≤ n) (ltb x (2 ^ 64)) (Some (x, (0 + m))) None
        (λ _ g. let i = value-bounded 10 s x m w q in
        let p = some_pair_parts x v (0 + m) n g in
        let a : x ≡ v = p.0 in
        let b : 0 + m ≡ n = p.1 in
        omega (arith, i.size, digits-short i.less 10 v (subst (λ (y : ℕ). y < 128 ^ suc i.less) a i.bound)))
        (λ _ g. absurd (let z : ◌≡◌ {A = ℕ} 0 1 = cc in omega arith)) f
    go None q f = absurd (let z : ◌≡◌ {A = ℕ} 0 1 = cc in omega arith)
