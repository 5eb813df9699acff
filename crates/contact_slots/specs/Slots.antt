-- Contacts as structs, and the flat bytes that the core works on: RULES, Places and contacts: "The contacts sit in a list of records lent by the host".
-- A contact's bytes are those of its slot (crates/contacts, specs/Table). The host lends room for all of them beside its contacts.
use Rattle.std.specs.Prelude.{ℕ, zero, suc, ◌*◌, ◌/◌, Bool, cond, List, [], ◌∷◌, ◌++◌, length, get_or, take, drop, leb}
use Rattle.contacts.specs.Table.{slot_size, slot}
use Rattle.sightings.specs.Order.{with_doubt, contact_bytes}
use Rattle.flat.specs.Flat.{peer_in}
use Rattle.refusal.specs.declared.Refusal.TheVariants.{OutOfForm}
use Rattle.peer.specs.declared.Peer.{Peer}
use Rattle.sightings.specs.declared.Sighting.{Sighting}
use Rattle.sightings.specs.declared.Settled.{Settled}
use Rattle.host_calls.specs.Hosts.{seen_of, settle_of, remove_of, doubt_of}
use Rattle.contact_slots.specs.declared.Contact.{Contact}
use Rattle.std.specs.Prelude.{Err, Result, ⊤}
use Rattle.refusal.specs.declared.Refusal.{Refusal}

-- ---- one contact
-- its mark, its rank in its bucket plus 1, is its slot's first byte, 0 where the slot is free; the second says whether it is doubtful
unfoldable pub slot_bytes : Contact → List ℕ
slot_bytes c = with_doubt c.doubt (contact_bytes c.mark c.peer)

-- the contact in a slot's bytes; what lies past their end reads as zeros
unfoldable pub contact_in : List ℕ → Contact
contact_in s = record { peer = peer_in s; mark = get_or s 0 0; doubt = get_or s 1 0 }

-- ---- a list of contacts: the table's slots, one after another
unfoldable pub table_bytes : List Contact → List ℕ
table_bytes [] = []
table_bytes (c ∷ t) = slot_bytes c ++ table_bytes t

-- the contacts in a table's first n slots
unfoldable pub contacts_in : ℕ → List ℕ → List Contact
contacts_in zero s = []
contacts_in (suc n) s = contacts_in n s ++ (contact_in (slot s n) ∷ [])

-- ---- the room
-- it has the bytes of n slots
unfoldable pub enough : ℕ → List ℕ → Bool
enough n room = leb n (length room / slot_size)

-- those bytes
abbrev pub table_in : ℕ → List ℕ → List ℕ
table_in n room = take (n * slot_size) room

-- the room with these bytes for them; a room that is too short stays as it is
unfoldable pub with_table : ℕ → List ℕ → List ℕ → List ℕ
with_table n room s = cond (enough n room) (s ++ drop (n * slot_size) room) room

-- what the room says of a contact; one that is too short says nothing
unfoldable pub contact_from : ℕ → List ℕ → ℕ → Contact → Contact
contact_from n room i c = cond (enough n room) (contact_in (slot room i)) c

-- ---- the calls on the n contacts in a room, which are host_calls' on their bytes: 0 where the room is too short for them
unfoldable pub seen_in : Peer → List ℕ → ℕ → List ℕ → Bool → List ℕ → Result Sighting Refusal
seen_in me room n id client addresses = cond (enough n room) (seen_of me (table_in n room) id client addresses) (Err OutOfForm)

unfoldable pub settle_in : Peer → List ℕ → ℕ → List ℕ → List ℕ → Bool → List ℕ → Bool → Result Settled Refusal
settle_in me room n head id client addresses answered = cond (enough n room) (settle_of me (table_in n room) head id client addresses answered) (Err OutOfForm)

unfoldable pub remove_in : Peer → List ℕ → ℕ → List ℕ → Result ⊤ Refusal
remove_in me room n id = cond (enough n room) (remove_of me (table_in n room) id) (Err OutOfForm)

unfoldable pub doubt_in : Peer → List ℕ → ℕ → List ℕ → Result ⊤ Refusal
doubt_in me room n id = cond (enough n room) (doubt_of me (table_in n room) id) (Err OutOfForm)
