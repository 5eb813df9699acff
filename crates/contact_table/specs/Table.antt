-- The contact table on flat bytes: RULES, Places and contacts. "The contacts sit in a list of records lent by the host".
--
--   bytes      what stands there
--   0          its rank in its bucket plus 1; 0 where the slot is free
--   1          1 where the contact is doubtful, else 0 (request x)
--   2          length of the id, 1 to 64
--   3          number of addresses, 0 to 4
--   4 to 7     their lengths, 1 to 128; 0 where there is none
--   8 to 39    the place
--   40 to 103  the id, zeros after it
--   104 to 615 four addresses of 128 bytes, zeros after each
use Rattle.std.specs.Prelude.{ℕ, zero, suc, ◌+◌, ◌*◌, ◌/◌, min, Bool, not, List, [], ◌∷◌, ◌++◌, length, get_or, eqb}
use Rattle.std.proofs.lemmas.List.Edits.{sets}
use Rattle.octets.specs.Octets.{part}
use Rattle.limits.specs.Limits.{most_id, most_address, most_addresses, addresses_size, place_size, most_contacts}

-- ---- where the parts of a slot stand
abbrev pub doubtful_at : ℕ
doubtful_at = 1

abbrev pub id_size_at : ℕ
id_size_at = 2

abbrev pub count_at : ℕ
count_at = 3

abbrev pub sizes_at : ℕ
sizes_at = 4

abbrev pub place_at : ℕ
place_at = sizes_at + most_addresses

abbrev pub id_at : ℕ
id_at = place_at + place_size

abbrev pub addresses_at : ℕ
addresses_at = id_at + most_id

abbrev pub slot_size : ℕ
slot_size = addresses_at + addresses_size

-- ---- the slots of a table
-- "0 to 5,120 slots ..; slots past that, or a part of one, aren't touched"
unfoldable pub slots_of : List ℕ → ℕ
slots_of t = min (length t / slot_size) most_contacts

unfoldable pub slot : List ℕ → ℕ → List ℕ
slot t i = part t (i * slot_size) (i * slot_size + slot_size)

-- slot i of a table, written whole
unfoldable pub put_slot : List ℕ → ℕ → List ℕ → List ℕ
put_slot t i s = sets t (i * slot_size) s

-- ---- the parts of a slot
unfoldable pub mark : List ℕ → ℕ
mark s = get_or s 0 0

unfoldable pub used : List ℕ → Bool
used s = not (eqb (mark s) 0)

-- "The host can mark a held contact as doubtful"
unfoldable pub doubt : List ℕ → ℕ
doubt s = get_or s doubtful_at 0

unfoldable pub doubtful : List ℕ → Bool
doubtful s = not (eqb (doubt s) 0)

unfoldable pub id_size : List ℕ → ℕ
id_size s = get_or s id_size_at 0

unfoldable pub address_count : List ℕ → ℕ
address_count s = get_or s count_at 0

unfoldable pub address_size : List ℕ → ℕ → ℕ
address_size s k = get_or s (sizes_at + k) 0

unfoldable pub place : List ℕ → List ℕ
place s = part s place_at id_at

unfoldable pub id : List ℕ → List ℕ
id s = part s id_at (id_at + id_size s)

unfoldable pub address : List ℕ → ℕ → List ℕ
address s k = part s (addresses_at + k * most_address) (addresses_at + k * most_address + address_size s k)

-- the first n addresses
unfoldable pub addresses_to : List ℕ → ℕ → List (List ℕ)
addresses_to s zero = []
addresses_to s (suc n) = addresses_to s n ++ (address s n ∷ [])

unfoldable pub addresses : List ℕ → List (List ℕ)
addresses s = addresses_to s (address_count s)
