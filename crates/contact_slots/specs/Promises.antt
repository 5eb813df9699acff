-- What is written reads back, and the contacts stay in step with the core's table: proofs/Back.antt and proofs/InStep.antt prove it.
use Rattle.std.specs.Prelude.{ℕ, ◌*◌, ◌≡◌, Bool, List, [], ◌∷◌, length}
use Rattle.contacts.specs.Table.{slot_size}
use Rattle.peer.specs.declared.Peer.{Peer}
use Rattle.flat.specs.Promises.{Whole}
use Rattle.host_calls.specs.Hosts.{seen_after, settle_after, remove_after, doubt_after}
use Rattle.contact_slots.specs.declared.Contact.{Contact}
use Rattle.contact_slots.specs.Slots.{slot_bytes, contact_in, table_bytes, contacts_in}

-- each contact's arrays have their lengths, as every value of the type does
unfoldable pub AllWhole : List Contact → Type 0
AllWhole [] = Unit {0}
AllWhole (c ∷ t) = Whole c.peer × AllWhole t

pub record ReadsBack : Type 0 where
  pub one : (c : Contact) → Whole c.peer → contact_in (slot_bytes c) ≡ c
  pub size : (t : List Contact) → AllWhole t → length (table_bytes t) ≡ length t * slot_size
  pub every : (t : List Contact) → AllWhole t → contacts_in (length t) (table_bytes t) ≡ t

-- ---- nothing is lost on the way: the contacts that are read from what a call of the core leaves are, laid out again, the same bytes.
-- So a run of calls on contacts is the core's run on their bytes
pub record InStep : Type 0 where
  pub seen : (me : Peer) (t : List Contact) (id : List ℕ) (client : Bool) (addresses : List ℕ) → AllWhole t
      → table_bytes (contacts_in (length t) (seen_after me (table_bytes t) id client addresses)) ≡ seen_after me (table_bytes t) id client addresses
  pub settle : (me : Peer) (t : List Contact) (head id : List ℕ) (client : Bool) (addresses : List ℕ) (answered : Bool) → AllWhole t
      → table_bytes (contacts_in (length t) (settle_after me (table_bytes t) head id client addresses answered)) ≡ settle_after me (table_bytes t) head id client addresses answered
  pub remove : (me : Peer) (t : List Contact) (id : List ℕ) → AllWhole t
      → table_bytes (contacts_in (length t) (remove_after me (table_bytes t) id)) ≡ remove_after me (table_bytes t) id
  pub doubt : (me : Peer) (t : List Contact) (id : List ℕ) → AllWhole t
      → table_bytes (contacts_in (length t) (doubt_after me (table_bytes t) id)) ≡ doubt_after me (table_bytes t) id
