-- What only the proofs need: the addresses of a peer half written.
use Rattle.std.specs.Prelude.{ℕ, ◌≡◌, take, List, [], ◌∷◌, Bool, false, cond, not, ltb}
use Rattle.octets.specs.Search.{every}
use Rattle.wire.specs.Items.{written, repeated}
use Rattle.pieces.specs.Writable.{address_fits}

-- the address of place k among n, if there is one
unfoldable pub nth : ℕ → ℕ → List ℕ → List (List ℕ)
nth k n a = cond (ltb k n) (a ∷ []) []

unfoldable pub nth_bytes : ℕ → ℕ → List ℕ → List ℕ
nth_bytes k n a = written (repeated 2 (nth k n a))

unfoldable pub nth_over : ℕ → ℕ → List ℕ → Bool
nth_over k n a = not (every address_fits (nth k n a))

unfoldable pub address_bytes : ℕ → List ℕ → List ℕ → List ℕ → List ℕ → List ℕ
address_bytes n a b c d = written (repeated 2 (take n (a ∷ b ∷ c ∷ d ∷ [])))

-- none of the first n is over its limit
pub record Fitting4 (n : ℕ) (a b c d : List ℕ) : Type 0 where
  pub first : nth_over 0 n a ≡ false
  pub second : nth_over 1 n b ≡ false
  pub third : nth_over 2 n c ≡ false
  pub fourth : nth_over 3 n d ≡ false
