-- What the inner functions answer: by its first word, a place is seen not to be of a bucket.
use Rattle.std.specs.Prelude.{ℕ, ◌≤◌, min, ◌≡◌, Bool, not, ◌&&◌, List, leb, eqb, length}
use Rattle.std.specs.Int.Bits.{bit_xor}
use Rattle.std.specs.Int.Count.{count_leading_zeros}
use Rattle.octets.specs.Octets.{part, number}
use Rattle.contact_order.specs.declared.Sieve.{Sieve}

-- the sieve of bucket b: it tells something only where ours is a place
pub record Sieves (ours : List ℕ) (b : ℕ) (s : Sieve) : Type 0 where
  pub long : s.bits ≤ 64 → length ours ≡ 32
  pub word : s.word ≡ number (part ours 0 8)
  pub bits : s.bits ≤ 64 → s.bits ≡ min b 64

-- the first word of place p shares another number of leading bits
unfoldable pub sifted_out : Sieve → List ℕ → Bool
sifted_out s p = leb s.bits 64 && not (eqb (count_leading_zeros 64 (bit_xor (number (part p 0 8)) s.word)) s.bits)
