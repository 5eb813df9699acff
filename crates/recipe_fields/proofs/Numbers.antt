-- Numbers of a fixed size, the lowest byte first: both ways. Assumes nothing.
use Prim.Native.Nat.{ℕ, zero, suc, ◌+◌, ◌*◌, ◌/◌, ◌%◌, ◌^◌, ◌<◌}
use mathlib.Core.Path.{◌≡◌, refl, ap}
use mathlib.Core.List.{List, [], ◌∷◌}
use native.Mathlib.Omega.{arith}
use native.Mathlib.Nat.{pow-suc, div-lt_iff_lt-mul}
use lib.ListN.{length}
use lib.Dec.{lit<}
use Rattle.octets.specs.Octets.{Bytes, little_number}
use Rattle.recipe_fields.specs.Fields.{little_bytes}

pub little-length : (n x : ℕ) → length (little_bytes n x) ≡ n
unfolding little_bytes
little-length zero x = refl
little-length (suc n) x = ap suc (little-length n (x / 256))

pub little-read : (n x : ℕ) → x < 256 ^ n → little_number (little_bytes n x) ≡ x
unfolding little_bytes little_number
little-read zero x h = omega arith
little-read (suc n) x h =
    let q : x / 256 < 256 ^ n = (div-lt_iff_lt-mul (lit< tt)).1 (rw (pow-suc 256 n) at h) in
    rw (little-read n (x / 256) q) (omega arith)

pub little-written : (s : List ℕ) → Bytes s → little_bytes (length s) (little_number s) ≡ s
unfolding little_bytes little_number
little-written [] h = refl
little-written (b ∷ s) h =
    let l : b < 256 = h 0 in
    let m : (b + little_number s * 256) % 256 ≡ b = omega arith in
    let d : (b + little_number s * 256) / 256 ≡ little_number s = omega arith in
    rw (m, d) (ap (λ (t : List ℕ). b ∷ t) (little-written s (λ i. h (suc i))))
