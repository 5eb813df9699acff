-- What only the proofs need: a varint half read.
use Rattle.std.specs.Prelude.{ℕ, ◌+◌, ◌*◌, ◌^◌, List, cond, drop, ltb}
use Rattle.wire.specs.Wire.{varint}
use Rattle.std.specs.Prelude.{Some, None, Option}

-- acc + place times the value, where it fits 64 bits, and the position after it
unfoldable pub resumed : ℕ → ℕ → ℕ → Option (ℕ × ℕ) → Option (ℕ × ℕ)
resumed acc place at (Some (v, n)) = cond (ltb (acc + place * v) (2 ^ 64)) (Some ((acc + place * v), (at + n))) None
resumed acc place at None = None

-- the tenth byte, after nine that came to acc
unfoldable pub tenth_at : List ℕ → ℕ → ℕ → Option (ℕ × ℕ)
tenth_at s at acc = resumed acc (2 ^ 63) at (varint 1 (drop at s))
