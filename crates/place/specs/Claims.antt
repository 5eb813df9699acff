-- What distance, nearness and buckets come to: RULES, Places and contacts. proofs/Claims.antt shows each.
use Rattle.std.specs.Prelude.{ℕ, ◌<◌, ◌≡◌, true, false, not, List, length}
use Rattle.std.specs.Int.Count.{count_leading_zeros}
use Rattle.octets.specs.Octets.{Bytes}
use Rattle.place.specs.Place.{place_of, is_place, distance, nearer_to, bucket_of}

-- 32 bytes
pub record Place (p : List ℕ) : Type 0 where
  pub size : is_place p ≡ true
  pub bytes : Bytes p

pub record Claims : Type 0 where
  -- the place of every name is one
  pub places : (name : List ℕ) → Place (place_of name)
  -- the distance is 0 exactly between equal byte strings, and it is the same both ways
  pub distance_self : (a : List ℕ) → distance a a ≡ 0
  pub distance-zero : (a b : List ℕ) → length a ≡ length b → Bytes a → Bytes b → distance a b ≡ 0 → a ≡ b
  pub distance-sym : (a b : List ℕ) → distance a b ≡ distance b a
  -- no two of one length are equally far from a target
  pub distance-inj : (a b t : List ℕ) → length a ≡ length b → Bytes a → Bytes b → distance a t ≡ distance b t → a ≡ b
  -- of two places that differ exactly one is nearer to a third; no place is nearer than itself; nearness goes over
  pub nearer-total : (t a b : List ℕ) → Place t → Place a → Place b → (a ≡ b → ⊥) → nearer_to t a b ≡ not (nearer_to t b a)
  pub nearer-self : (t a : List ℕ) → nearer_to t a a ≡ false
  pub nearer-trans : (t a b c : List ℕ) → nearer_to t a b ≡ true → nearer_to t b c ≡ true → nearer_to t a c ≡ true
  -- "The bucket number is the count of leading zero bits of the XOR with our place": of the XOR as a number of 256 bits
  pub bucket-zeros : (p ours : List ℕ) → Place p → Place ours → bucket_of p ours ≡ count_leading_zeros 256 (distance p ours)
  -- "0 to 255", for every place but ours; 256 is our own alone
  pub bucket-lt : (p ours : List ℕ) → Place p → Place ours → (p ≡ ours → ⊥) → bucket_of p ours < 256
  pub bucket-self : (ours : List ℕ) → bucket_of ours ours ≡ 256
  pub bucket-ours : (p ours : List ℕ) → Place p → Place ours → bucket_of p ours ≡ 256 → p ≡ ours
