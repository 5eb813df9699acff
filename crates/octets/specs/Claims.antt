-- What the words of byte strings come to. proofs/Claims.antt shows each.
use Rattle.std.specs.Prelude.{ℕ, ◌≡◌, true, false, List, length, take}
use Rattle.octets.specs.Octets.{Bytes, same, lower, starts_with, number}

pub record Claims : Type 0 where
  -- `same` is equality
  pub same_refl : (a : List ℕ) → same a a ≡ true
  pub same-eq : (a b : List ℕ) → same a b ≡ true → a ≡ b
  -- bytewise order is a strict total one
  pub lower-irrefl : (a : List ℕ) → lower a a ≡ false
  pub lower-trans : (a b c : List ℕ) → lower a b ≡ true → lower b c ≡ true → lower a c ≡ true
  pub lower-total : (a b : List ℕ) → lower a b ≡ false → lower b a ≡ false → a ≡ b
  -- a string begins with p only if its first bytes are p's
  pub starts-eq : (s p : List ℕ) → starts_with s p ≡ true → take (length p) s ≡ p
  -- a number has its bytes
  pub number-inj : (s t : List ℕ) → length s ≡ length t → Bytes s → Bytes t → number s ≡ number t → s ≡ t
