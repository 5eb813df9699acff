-- The test of a key. Assumes nothing.
use Prim.Native.Nat.{ℕ, ◌≤◌}
use mathlib.Core.Path.{◌≡◌, sym}
use mathlib.Core.Bool.{true, false}
use mathlib.Core.List.{List}
use native.Mathlib.Omega.{arith}
use lib.Dec.{leb}
use lib.ListN.{length}
use borrow.Author.Tests.{le-leb, lt-leb}
use Rattle.octets.proofs.Bools.{and-on, and-off}
use Rattle.limits.specs.Limits.{most_key}
use Rattle.message.specs.Kinds.{key_fits}

pub key-none : (key : List ℕ) → length key ≡ 0 → false ≡ key_fits key
unfolding key_fits
key-none key e = sym (and-off (leb 1 (length key)) (leb (length key) most_key) (lt-leb 1 (length key) (omega arith)))

pub key-some : (key : List ℕ) → (length key ≡ 0 → ⊥) → leb (length key) most_key ≡ key_fits key
unfolding key_fits
key-some key h = sym (and-on (leb 1 (length key)) (leb (length key) most_key) (le-leb 1 (length key) (omega (arith, h))))
