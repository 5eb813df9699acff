-- A peer by value, and what it says: RULES, Places and contacts.
use Rattle.std.specs.Prelude.{ℕ, zero, suc, ◌+◌, ◌*◌, min, Bool, cond, not, ◌&&◌, ◌||◌, List, [], ◌∷◌, ◌++◌, leb, length, get_or}
use Rattle.octets.specs.Octets.{part, same}
use Rattle.limits.specs.Limits.{most_id, most_address, most_addresses}
use Rattle.place.specs.Place.{place_of}
use Rattle.peer.specs.declared.Peer.{Peer}
use Rattle.peer.specs.Addresses.{usable_size, kept_of, padded, rooms, sizes}

-- "peer id not 1 to 64 bytes" (RULES, Refusals)
unfoldable pub id_fits : List ℕ → Bool
id_fits id = leb 1 (length id) && leb (length id) most_id

-- refusal 12: "peer id not 1 to 64 bytes, or of our place" (RULES, Refusals)
unfoldable pub bad_peer : List ℕ → List ℕ → Bool
bad_peer ours id = not (id_fits id) || same (place_of id) ours

-- the peer with an id, its place, and a list of addresses
unfoldable pub peer_of : List ℕ → List ℕ → List ℕ → Peer
peer_of id place addresses = record {
  addrs = rooms most_addresses (kept_of addresses);
  id = padded most_id id;
  place = place;
  lens = sizes most_addresses (kept_of addresses);
  size = min (length id) most_id;
  count = length (kept_of addresses);
}

-- ---- a peer as the 616 bytes of a contact's slot: its mark, then no doubt, and all that the peer has
unfoldable pub contact_bytes : ℕ → Peer → List ℕ
contact_bytes m p = (m ∷ 0 ∷ p.size ∷ p.count ∷ []) ++ (p.lens ++ (p.place ++ (p.id ++ p.addrs)))

-- ---- what a peer says: its id, and its addresses
unfoldable pub id_in : Peer → List ℕ
id_in p = part p.id 0 p.size

unfoldable pub address_in : Peer → ℕ → List ℕ
address_in p k = part p.addrs (k * most_address) (k * most_address + get_or p.lens k 0)

unfoldable pub addresses_to : Peer → ℕ → List (List ℕ)
addresses_to p zero = []
addresses_to p (suc n) = addresses_to p n ++ (address_in p n ∷ [])

unfoldable pub addresses_in : Peer → List (List ℕ)
addresses_in p = addresses_to p p.count

-- ---- any numbers may stand in a peer that is handed in. Its usable addresses: a room whose length isn't 1 to 128 has none, and there are four rooms
unfoldable pub usable_to : Peer → ℕ → List (List ℕ)
usable_to p zero = []
usable_to p (suc n) = usable_to p n ++ cond (usable_size (get_or p.lens n 0)) (address_in p n ∷ []) []

unfoldable pub usable_in : Peer → List (List ℕ)
usable_in p = usable_to p (min p.count most_addresses)

-- the peer with these addresses alone. One that `peer_of` gives is its own
unfoldable pub tidied : Peer → Peer
tidied p = record {
  addrs = rooms most_addresses (usable_in p);
  id = p.id;
  place = p.place;
  lens = sizes most_addresses (usable_in p);
  size = p.size;
  count = length (usable_in p);
}
