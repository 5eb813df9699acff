-- What is written is read back, as the same fields: proofs/RoundTrip.antt shows it. The definitions stand in crates/wire, specs/Wire and specs/Items.
use Rattle.std.specs.Prelude.{ℕ, ◌+◌, ◌^◌, ◌≤◌, ◌<◌, ◌≡◌, List, [], ◌∷◌, ◌++◌, length}
use Rattle.octets.specs.Octets.{Bytes}
use Rattle.wire.specs.Wire.{varint_at}
use Rattle.wire.specs.Items.{Item, num, bytes, skipped, bad, items, minimal, written}
use Rattle.std.specs.Prelude.{Some}

-- a field that a writer may write: its number isn't 0, its tag fits 32 bits, and a number fits 64
abbrev pub Good : Item → Type 0
Good (num f v) = (0 < f) × (f < 2 ^ 29) × (v < 2 ^ 64)
Good (bytes f b) = (0 < f) × (f < 2 ^ 29)
Good skipped = ⊥
Good bad = ⊥

abbrev pub AllGood : List Item → Type 0
AllGood [] = Unit {0}
AllGood (i ∷ is) = Good i × AllGood is

pub record Claims : Type 0 where
  -- a minimal varint is read as its value and takes its own bytes alone, wherever it stands
  pub varints : (v : ℕ) (pre post : List ℕ) → v < 2 ^ 64 → varint_at (pre ++ (minimal v ++ post)) (length pre) ≡ Some (v, (length pre + length (minimal v)))
  -- and no varint of bytes that has this value is shorter
  pub shortest : (s : List ℕ) (v n : ℕ) → Bytes s → varint_at s 0 ≡ Some (v, n) → length (minimal v) ≤ n
  -- the fields of what is written are those that were written, in their order, and no others
  pub fields : (is : List Item) → AllGood is → length (written is) < 2 ^ 64 → items (written is) ≡ is
