-- The limits and the layout of the record store. src/lib.rt has the same numbers as constants.
use Rattle.std.specs.Prelude.{ℕ, ◌+◌, List, [], ◌∷◌}
use Rattle.limits.specs.Limits.{most_key, most_value}
pub use Rattle.keyed_slots.specs.Slots.{key_at}

-- "a /wind/ key of 7 to 128 bytes"
abbrev pub key_min : ℕ
key_min = 7

-- "the six bytes /wind/ open every record key"
abbrev pub opening : List ℕ
opening = 0x2F ∷ 0x77 ∷ 0x69 ∷ 0x6E ∷ 0x64 ∷ 0x2F ∷ []

-- a slot has its key where every slot with a key has it, and after the room for that its value
abbrev pub value_at : ℕ
value_at = key_at + most_key

abbrev pub slot_size : ℕ
slot_size = value_at + most_value
