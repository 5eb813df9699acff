-- The slots of the record store and its form: RULES, Recipes.
-- A store is a byte string, of which each whole 3,208 bytes are a slot, up to 256; what comes after isn't looked at and isn't touched.
use Rattle.std.specs.Prelude.{ℕ, ◌+◌, ◌-◌, ◌*◌, ◌/◌, ◌%◌, min, Bool, not, ◌&&◌, ◌||◌, List, [], ◌∷◌, ◌++◌, length, get_or, replicate, leb}
use Rattle.octets.specs.Octets.{part, same, starts_with}
use Rattle.octets.specs.Search.{all, first, all_of}
use Rattle.limits.specs.Limits.{most_key, most_value, most_records}
use Rattle.recipe.specs.Limits.{trailer_size}
use Rattle.record_slots.specs.Limits.{key_min, opening, value_at, slot_size}
-- byte 0 is the length of the key, which stands from byte 8 on; a slot is free where it is 0
unfoldable pub use Rattle.keyed_slots.specs.Slots.{used, key_of}

-- ---- the layout
unfoldable pub slots_of : List ℕ → ℕ
slots_of t = min (length t / slot_size) most_records

unfoldable pub slot : List ℕ → ℕ → List ℕ
slot t i = part t (i * slot_size) (i * slot_size + slot_size)

-- bytes 2 and 3 are the length of the value, the low byte first
unfoldable pub size_of : List ℕ → ℕ
size_of s = get_or s 2 0 + get_or s 3 0 * 256

unfoldable pub value_of : List ℕ → List ℕ
value_of s = part s value_at (value_at + size_of s)

unfoldable pub padded : ℕ → List ℕ → List ℕ
padded n s = s ++ replicate (n - length s) 0

unfoldable pub header : ℕ → ℕ → List ℕ
header k v = k ∷ 0 ∷ v % 256 ∷ v / 256 ∷ 0 ∷ 0 ∷ 0 ∷ 0 ∷ []

-- a record as its whole slot, zeros after the key and after the value
unfoldable pub slot_bytes : List ℕ → List ℕ → List ℕ
slot_bytes k v = header (length k) (length v) ++ (padded most_key k ++ padded most_value v)

-- ---- the form
-- "the six bytes /wind/ open every record key, with 1 to 122 more" (RULES, Answers)
unfoldable pub is_key : List ℕ → Bool
is_key k = all_of (leb key_min (length k) ∷ leb (length k) most_key ∷ starts_with k opening ∷ [])

-- "a /wind/ key of 7 to 128 bytes and a value of 16 to 3,072". RULES has no other rule for a used slot, so the bytes that aren't of the
-- key, the value or their lengths aren't looked at; nor is the value tested for a recipe.
unfoldable pub is_record : List ℕ → Bool
is_record s = all_of (is_key (key_of s) ∷ leb trailer_size (size_of s) ∷ leb (size_of s) most_value ∷ [])

-- slot i holds a record of key k
unfoldable pub holds : List ℕ → List ℕ → ℕ → Bool
holds t k i = used (slot t i) && same (key_of (slot t i)) k

-- "no key twice": slot j doesn't hold the key of slot i
unfoldable pub apart : List ℕ → ℕ → ℕ → Bool
apart t i j = not (holds t (key_of (slot t i)) j)

-- a free slot has no form: any bytes may stand in it
unfoldable pub fits : List ℕ → ℕ → Bool
fits t i = not (used (slot t i)) || (is_record (slot t i) && all i (apart t i))

unfoldable pub in_form : List ℕ → Bool
in_form t = all (slots_of t) (fits t)

-- ---- finding
-- the slot of a key, or the number of slots where none holds it
unfoldable pub slot_with : List ℕ → List ℕ → ℕ
slot_with t k = first (slots_of t) (holds t k)

unfoldable pub is_free : List ℕ → ℕ → Bool
is_free t i = not (used (slot t i))

-- the lowest free slot, or the number of slots where none is free
unfoldable pub free_slot : List ℕ → ℕ
free_slot t = first (slots_of t) (is_free t)
