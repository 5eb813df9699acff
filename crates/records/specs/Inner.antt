-- What the parts of the code need of each other. No reader of `Store` needs this.
use Rattle.std.specs.Prelude.{ℕ, ◌+◌, ◌≤◌, List, length}
use Rattle.limits.specs.Limits.{most_key, most_value}
use Rattle.record_slots.specs.Limits.{slot_size}

-- a key and a value that fit a slot, and the place of one
pub record Fitting (t : List ℕ) (at : ℕ) (k v : List ℕ) : Type 0 where
  pub inside : at + slot_size ≤ length t
  pub key_fits : length k ≤ most_key
  pub value-fits : length v ≤ most_value
