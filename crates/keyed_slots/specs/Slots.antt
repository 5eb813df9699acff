-- Slots with keys: a lent store of flat bytes, of which each whole z bytes are a slot, up to 256, with a key to each. Record memory is
-- such a store; another may have slots of another size. What comes after the slots isn't looked at and isn't touched.
--
--   bytes of a slot   what stands there
--   0                 length of the key; 0 where the slot is free
--   8 on              the key
use Rattle.std.specs.Prelude.{ℕ, ◌+◌, ◌*◌, ◌/◌, min, Bool, not, ◌&&◌, ◌||◌, List, length, get_or, eqb}
use Rattle.octets.specs.Octets.{part, same}
use Rattle.octets.specs.Search.{all, first}
use Rattle.limits.specs.Limits.{most_records}

-- where a key begins
abbrev pub key_at : ℕ
key_at = 8

-- "0 to 256 slots": how many of z bytes a store has
unfoldable pub slots_of : ℕ → List ℕ → ℕ
slots_of z t = min (length t / z) most_records

unfoldable pub slot : ℕ → List ℕ → ℕ → List ℕ
slot z t i = part t (i * z) (i * z + z)

unfoldable pub used : List ℕ → Bool
used s = not (eqb (get_or s 0 0) 0)

unfoldable pub key_of : List ℕ → List ℕ
key_of s = part s key_at (key_at + get_or s 0 0)

-- slot i is used and has the key k
unfoldable pub holds : ℕ → List ℕ → List ℕ → ℕ → Bool
holds z t k i = used (slot z t i) && same (key_of (slot z t i)) k

-- ---- no key twice
-- slot j doesn't hold the key of slot i
unfoldable pub apart : ℕ → List ℕ → ℕ → ℕ → Bool
apart z t i j = not (holds z t (key_of (slot z t i)) j)

-- slot i is free, or no slot before it holds its key
unfoldable pub alone : ℕ → List ℕ → ℕ → Bool
alone z t i = not (used (slot z t i)) || all i (apart z t i)

unfoldable pub keys_apart : ℕ → List ℕ → Bool
keys_apart z t = all (slots_of z t) (alone z t)

-- ---- finding
-- the slot of a key, or the number of slots where none holds it
unfoldable pub slot_with : ℕ → List ℕ → List ℕ → ℕ
slot_with z t k = first (slots_of z t) (holds z t k)

unfoldable pub is_free : ℕ → List ℕ → ℕ → Bool
is_free z t i = not (used (slot z t i))

-- the lowest free slot, or the number of slots where none is free
unfoldable pub free_slot : ℕ → List ℕ → ℕ
free_slot z t = first (slots_of z t) (is_free z t)
