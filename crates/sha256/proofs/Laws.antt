-- What a caller may use of a hash: it is 32 bytes. Assumes nothing.
use Rattle.std.proofs.Common.{◌≡◌, ℕ, zero, suc, ◌*◌, ◌/◌, ◌^◌, List, [], ◌∷◌, ◌++◌, length, refl, arith}
use Rattle.octets.specs.Octets.{Bytes, big_endian}
use Rattle.sha256.specs.declared.State.{State}
use Rattle.sha256.specs.Sha256.{absorbed, initial, pad, digest, sha256}

pub length-sha256 : (m : List ℕ) → length (sha256 m) ≡ 32
unfolding sha256 digest big_endian
length-sha256 m = refl

bytes-big_endian : (n x : ℕ) → Bytes (big_endian n x)
unfolding big_endian
bytes-big_endian zero x i = omega arith
bytes-big_endian (suc n) x zero = let y : ℕ = x / 2 ^ (n * 8) in omega arith
bytes-big_endian (suc n) x (suc i) = bytes-big_endian n x i

bytes-append : (a b : List ℕ) → Bytes a → Bytes b → Bytes (a ++ b)
bytes-append [] b ha hb i = hb i
bytes-append (x ∷ a) b ha hb zero = ha 0
bytes-append (x ∷ a) b ha hb (suc i) = bytes-append a b (λ (j : ℕ). ha (suc j)) hb i

record Octets (s : List ℕ) : Type 0 where
  each : Bytes s

word : (x : ℕ) → Octets (big_endian 4 x)
word x = record { each = bytes-big_endian 4 x }

more : {s : List ℕ} → Octets s → (x : ℕ) → Octets (s ++ big_endian 4 x)
more {s} h x = record { each = bytes-append s (big_endian 4 x) h.each (bytes-big_endian 4 x) }

bytes-digest : (s : State) → Bytes (digest s)
unfolding digest
bytes-digest s = (more (more (more (more (more (more (more (word s.a) s.b) s.c) s.d) s.e) s.f) s.g) s.h).each

pub bytes-sha256 : (m : List ℕ) → Bytes (sha256 m)
unfolding sha256
bytes-sha256 m = bytes-digest (absorbed (length (pad m) / 64) (pad m) initial)
