-- Seen, settle, remove and doubt on contacts that sit in a list of structs lent by the host: RULES, Places and contacts, and RULES, Shape of the code. Each is host_calls' on the
-- bytes of the contacts, which are laid out in the room that the host lends beside them: 616 bytes for each, else refusal 0, and nothing changes.
use Rattle.std.specs.Prelude.{ℕ, Bool, cond, List, length}
use Rattle.refusal.specs.declared.Refusal.TheVariants.{OutOfForm}
use Rattle.peer.specs.declared.Peer.{Peer}
use Rattle.sightings.specs.declared.Sighting.{Sighting}
use Rattle.sightings.specs.declared.Settled.{Settled}
use Rattle.host_calls.specs.Hosts.{seen_of, settle_of, remove_of, doubt_of}
use Rattle.contact_slots.specs.declared.Contact.{Contact}
use Rattle.contact_slots.specs.Slots.{table_bytes, contacts_in, enough, with_table}
use Rattle.std.specs.Prelude.{Err, Result, ⊤}
use Rattle.refusal.specs.declared.Refusal.{Refusal}

-- ---- the contacts and the room, where the table's bytes are s afterwards
unfoldable pub contacts_after : List Contact → List ℕ → List ℕ → List Contact
contacts_after t room s = cond (enough (length t) room) (contacts_in (length t) s) t

abbrev pub room_after : List Contact → List ℕ → List ℕ → List ℕ
room_after t room s = with_table (length t) room s

-- ---- the answers
unfoldable pub seen_on : Peer → List Contact → List ℕ → List ℕ → Bool → List ℕ → Result Sighting Refusal
seen_on me t room id client addresses = cond (enough (length t) room) (seen_of me (table_bytes t) id client addresses) (Err OutOfForm)

unfoldable pub settle_on : Peer → List Contact → List ℕ → List ℕ → List ℕ → Bool → List ℕ → Bool → Result Settled Refusal
settle_on me t room head id client addresses answered = cond (enough (length t) room) (settle_of me (table_bytes t) head id client addresses answered) (Err OutOfForm)

unfoldable pub remove_on : Peer → List Contact → List ℕ → List ℕ → Result ⊤ Refusal
remove_on me t room id = cond (enough (length t) room) (remove_of me (table_bytes t) id) (Err OutOfForm)

unfoldable pub doubt_on : Peer → List Contact → List ℕ → List ℕ → Result ⊤ Refusal
doubt_on me t room id = cond (enough (length t) room) (doubt_of me (table_bytes t) id) (Err OutOfForm)
