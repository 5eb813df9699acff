-- What a reply gives of a contact. In a table in form these are the slot's id and addresses (crates/contact_form, specs/Claims); each is cut at its limit, so that it
-- has a meaning in a table of any bytes too.
use Rattle.std.specs.Prelude.{ℕ, zero, suc, min, List, [], ◌∷◌, ◌++◌, take}
use Rattle.limits.specs.Limits.{most_id, most_address, most_addresses}
use Rattle.contact_table.specs.Table.{id, address, address_count}

unfoldable pub entry_id : List ℕ → List ℕ
entry_id s = take most_id (id s)

unfoldable pub entry_address : List ℕ → ℕ → List ℕ
entry_address s k = take most_address (address s k)

unfoldable pub entry_count : List ℕ → ℕ
entry_count s = min (address_count s) most_addresses

-- the first n addresses, and all
unfoldable pub entry_addresses_to : List ℕ → ℕ → List (List ℕ)
entry_addresses_to s zero = []
entry_addresses_to s (suc n) = entry_addresses_to s n ++ (entry_address s n ∷ [])

unfoldable pub entry_addresses : List ℕ → List (List ℕ)
entry_addresses s = entry_addresses_to s (entry_count s)
