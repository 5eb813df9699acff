-- Of a box that a start gave, the calls on contacts are those of contact_calls: which number it is told and what its table then is.
use Rattle.std.specs.Prelude.{ℕ, ◌≡◌, ◌⊎◌, Bool, true, false, List, length}
use Rattle.octets.specs.Octets.{Bytes}
use Rattle.place.specs.Place.{place_of}
use Rattle.contacts.specs.Claims.{Gives, GivesFirst}
use Rattle.peer.specs.declared.Peer.{Peer}
use Rattle.peer.specs.Peers.{peer_of}
use Rattle.sightings.specs.Order.{held_at}
use Rattle.sightings.specs.Sightings.{sighting_of, seen_table}
use Rattle.sightings.specs.declared.Sighting.TheVariants as seen
use Rattle.sightings.specs.declared.Settled.TheVariants as settle
use Rattle.contact_calls.specs.Calls.{seen_number, settle_number, remove_number, doubt_number}
use Rattle.contact_calls.specs.Claims.{Admits, SeenTold, SettleTold, RemoveTold, DoubtTold, SeenDoes, SettleDoes, RemoveDoes, DoubtDoes}
use Rattle.connections.specs.Box.{own_fits}
use Rattle.host_contacts.specs.Contacts.{seen_of, seen_after, settle_of, settle_after, remove_of, remove_after, doubt_of, doubt_after}
use Rattle.std.specs.Prelude.{Ok}

pub record ContactsTold (me : Peer) : Type 0 where
  pub seen_told : (t id : List ℕ) (client : Bool) (addresses : List ℕ) → SeenTold t me.place id client (seen_number (seen_of me t id client addresses))
  pub settle_told : (t head id : List ℕ) (client : Bool) (addresses : List ℕ) (answered : Bool)
      → SettleTold t me.place head id client answered (settle_number (settle_of me t head id client addresses answered))
  pub remove_told : (t id : List ℕ) → RemoveTold t me.place id (remove_number (remove_of me t id))
  pub doubt_told : (t id : List ℕ) → DoubtTold t me.place id (doubt_number (doubt_of me t id))
  pub seen_does : (t id : List ℕ) (client : Bool) (addresses : List ℕ) → SeenDoes t me.place id addresses (seen_of me t id client addresses) (seen_after me t id client addresses)
  pub settle_does : (t head id : List ℕ) (client : Bool) (addresses : List ℕ) (answered : Bool)
      → SettleDoes t me.place head id addresses (settle_of me t head id client addresses answered) (settle_after me t head id client addresses answered)
  pub remove_does : (t id : List ℕ) → RemoveDoes t me.place id (remove_of me t id) (remove_after me t id)
  pub doubt_does : (t id : List ℕ) → DoubtDoes t id (doubt_of me t id) (doubt_after me t id)
  -- what a message makes of the table where its sender is a server is a seen of that peer
  pub beside : (t id addresses : List ℕ) → Admits t me.place id
      → (sighting_of t me.place (peer_of id (place_of id) addresses) ≡ seen_of me t id false addresses) × (seen_table t me.place (peer_of id (place_of id) addresses) ≡ seen_after me t id false addresses)
  -- of a marked table seen and settle are told what they would have been told
  pub seen_ignores : (t id other : List ℕ) (client : Bool) (addresses : List ℕ) → seen_of me (doubt_after me t id) other client addresses ≡ seen_of me t other client addresses
  pub settle_ignores : (t id head other : List ℕ) (client : Bool) (addresses : List ℕ) (answered : Bool)
      → settle_of me (doubt_after me t id) head other client addresses answered ≡ settle_of me t head other client addresses answered
  -- who was marked isn't given; who was seen, or answered a probe, is the first for its own place
  pub hidden : (t id x : List ℕ) → doubt_number (doubt_of me t id) ≡ 64 → Gives (doubt_after me t id) x (held_at t (place_of id)) → ⊥
  pub seen_given : (t id : List ℕ) (client : Bool) (addresses : List ℕ) → Bytes (seen_after me t id client addresses) → (i : ℕ)
      → (seen_of me t id client addresses ≡ Ok (seen.Moved i)) ⊎ (seen_of me t id client addresses ≡ Ok (seen.Joined i)) → GivesFirst (seen_after me t id client addresses) (place_of id) i
  pub answerer_given : (t head id : List ℕ) (client : Bool) (addresses : List ℕ) (answered : Bool) → Bytes (settle_after me t head id client addresses answered)
      → settle_of me t head id client addresses answered ≡ Ok settle.Kept → GivesFirst (settle_after me t head id client addresses answered) (place_of head) (held_at t (place_of head))

abbrev pub Claims : Type 0
Claims = (me : Peer) → own_fits me ≡ true → length me.place ≡ 32 → Bytes me.place → ContactsTold me
