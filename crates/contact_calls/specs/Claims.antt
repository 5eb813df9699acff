-- Seen, settle, remove and doubt as a host calls them: which number it is told and what its table then is. `claims` (proofs/Claims.antt) has all of it.
-- Quoted are RULES, Refusals, RULES, Places and contacts, RULES, Lent memory, and RULES, Errors we have met.
use Rattle.std.specs.Prelude.{ℕ, ◌<◌, ◌≤◌, ◌≡◌, Bool, true, false, ◌⊎◌, List, length, get_or}
use Rattle.octets.specs.Octets.{Bytes}
use Rattle.place.specs.Place.{place_of, bucket_of}
use Rattle.contacts.specs.Table.{slots_of, slot, used}
use Rattle.contacts.specs.Form.{in_form}
use Rattle.contacts.specs.Claims.{Gives, GivesFirst}
use Rattle.peer.specs.Addresses.{kept_of}
use Rattle.peer.specs.Peers.{bad_peer, peer_of}
use Rattle.sightings.specs.declared.Sighting.{Sighting}
use Rattle.sightings.specs.declared.Sighting.TheVariants as seen
use Rattle.sightings.specs.declared.Settled.{Settled}
use Rattle.sightings.specs.declared.Settled.TheVariants as settle
use Rattle.sightings.specs.Order.{is_head, held_at}
use Rattle.sightings.specs.Sightings.{held, sighting_of, seen_table}
use Rattle.sightings_kept.specs.Promises.{SameContact, HeldSeen, NewSeen, Freed, HeadKept, HeadGone, StillFits, OnlyMarked, holds}
use Rattle.contact_calls.specs.Calls.{seen_call, seen_call_table, settle_call, settle_call_table, remove_call, remove_call_table, doubt_call, doubt_call_table, seen_number, settle_number, remove_number, doubt_number}
use Rattle.std.specs.Prelude.{Ok, Err, Result, ⊤}
use Rattle.refusal.specs.declared.Refusal.{Refusal}

-- ---- the number that a host is told: RULES, Refusals, "given exactly when". In each record the cases leave none out

-- neither 0 nor 12 applies
pub record Admits (t ours id : List ℕ) : Type 0 where
  pub form : in_form t ours ≡ true
  pub peer : bad_peer ours id ≡ false

-- of seen
pub record SeenTold (t ours id : List ℕ) (client : Bool) (n : ℕ) : Type 0 where
  pub out_of_form : in_form t ours ≡ false → n ≡ 0
  pub bad_id : in_form t ours ≡ true → bad_peer ours id ≡ true → n ≡ 12
  -- "18 before 13 and 14"
  pub is_client : Admits t ours id → client ≡ true → n ≡ 18
  pub moved : Admits t ours id → client ≡ false → held t (place_of id) ≡ true → n ≡ 64
  -- "bucket holds 20"
  pub full : Admits t ours id → client ≡ false → held t (place_of id) ≡ false → 20 ≤ holds t ours (bucket_of (place_of id) ours) → n ≡ 13
  -- "bucket has room, every contact slot is used"
  pub no_slot : Admits t ours id → client ≡ false → held t (place_of id) ≡ false → holds t ours (bucket_of (place_of id) ours) < 20
      → ((j : ℕ) → j < slots_of t → used (slot t j) ≡ true) → n ≡ 14
  pub joined : Admits t ours id → client ≡ false → held t (place_of id) ≡ false → holds t ours (bucket_of (place_of id) ours) < 20
      → (j : ℕ) → j < slots_of t → used (slot t j) ≡ false → n ≡ 65

-- of settle
pub record SettleTold (t ours head id : List ℕ) (client answered : Bool) (n : ℕ) : Type 0 where
  pub out_of_form : in_form t ours ≡ false → n ≡ 0
  pub bad_head : in_form t ours ≡ true → bad_peer ours head ≡ true → n ≡ 12
  pub bad_id : in_form t ours ≡ true → bad_peer ours id ≡ true → n ≡ 12
  -- "settle .. no longer fits the table"
  pub stale : Admits t ours head → Admits t ours id → (StillFits t ours (place_of head) (place_of id) → ⊥) → n ≡ 15
  pub is_client : Admits t ours head → Admits t ours id → StillFits t ours (place_of head) (place_of id) → client ≡ true → n ≡ 18
  pub kept : Admits t ours head → Admits t ours id → StillFits t ours (place_of head) (place_of id) → client ≡ false → answered ≡ true → n ≡ 64
  pub swapped : Admits t ours head → Admits t ours id → StillFits t ours (place_of head) (place_of id) → client ≡ false → answered ≡ false → n ≡ 65

-- of remove
pub record RemoveTold (t ours id : List ℕ) (n : ℕ) : Type 0 where
  pub out_of_form : in_form t ours ≡ false → n ≡ 0
  pub bad_id : in_form t ours ≡ true → bad_peer ours id ≡ true → n ≡ 12
  pub not_held : Admits t ours id → held t (place_of id) ≡ false → n ≡ 15
  pub gone : Admits t ours id → held t (place_of id) ≡ true → n ≡ 64

-- of doubt
pub record DoubtTold (t ours id : List ℕ) (n : ℕ) : Type 0 where
  pub out_of_form : in_form t ours ≡ false → n ≡ 0
  pub bad_id : in_form t ours ≡ true → bad_peer ours id ≡ true → n ≡ 12
  -- "Marking one not held gives 15"
  pub not_held : Admits t ours id → held t (place_of id) ≡ false → n ≡ 15
  pub marked : Admits t ours id → held t (place_of id) ≡ true → n ≡ 64

abbrev pub Neither13Nor14 : ℕ → Type 0
Neither13Nor14 n = (n ≡ 13 → ⊥) × (n ≡ 14 → ⊥)

-- ---- what each answer makes of the table t: u. In each, nobody else's id, place, addresses, order or mark of doubt changes
-- "takes the new addresses if any is usable (..; the first four usable)"; a newcomer has the id that was handed in
abbrev pub SeenDoes : List ℕ → List ℕ → List ℕ → List ℕ → Result Sighting Refusal → List ℕ → Type 0
SeenDoes t ours id addresses (Ok (seen.Moved i)) u = HeldSeen t ours (place_of id) (kept_of addresses) i u
SeenDoes t ours id addresses (Ok (seen.Joined i)) u = NewSeen t ours (place_of id) id (kept_of addresses) i u
-- "its head is named for a probe"
SeenDoes t ours id addresses (Ok (seen.Probe h)) u = (h < slots_of t) × (is_head ours (bucket_of (place_of id) ours) (slot t h) ≡ true) × (u ≡ t)
SeenDoes t ours id addresses (Err r) u = u ≡ t

abbrev pub SettleDoes : List ℕ → List ℕ → List ℕ → List ℕ → List ℕ → Result Settled Refusal → List ℕ → Type 0
SettleDoes t ours head id addresses (Ok settle.Kept) u = HeadKept t ours (place_of head) u
SettleDoes t ours head id addresses (Ok settle.Swapped) u = HeadGone t ours (place_of head) (place_of id) id (kept_of addresses) u
SettleDoes t ours head id addresses (Err r) u = u ≡ t

abbrev pub RemoveDoes : List ℕ → List ℕ → List ℕ → Result ⊤ Refusal → List ℕ → Type 0
RemoveDoes t ours id (Ok tt) u = Freed t ours (place_of id) (held_at t (place_of id)) u
RemoveDoes t ours id (Err r) u = u ≡ t

abbrev pub DoubtDoes : List ℕ → List ℕ → Result ⊤ Refusal → List ℕ → Type 0
DoubtDoes t id (Ok tt) u = OnlyMarked t (held_at t (place_of id)) u
DoubtDoes t id (Err r) u = u ≡ t

-- ---- the claims
pub record Claims : Type 0 where
  -- each number is given exactly when RULES, Refusals, says so
  pub seen_told : (t ours id : List ℕ) (client : Bool) (addresses : List ℕ) → SeenTold t ours id client (seen_number (seen_call t ours id client addresses))
  pub settle_told : (t ours head id : List ℕ) (client : Bool) (addresses : List ℕ) (answered : Bool)
      → SettleTold t ours head id client answered (settle_number (settle_call t ours head id client addresses answered))
  pub remove_told : (t ours id : List ℕ) → RemoveTold t ours id (remove_number (remove_call t ours id))
  pub doubt_told : (t ours id : List ℕ) → DoubtTold t ours id (doubt_number (doubt_call t ours id))
  -- "a peer already held is never 13 or 14", and neither is a client: whatever the table
  pub held_never : (t ours id : List ℕ) (client : Bool) (addresses : List ℕ) → held t (place_of id) ≡ true → Neither13Nor14 (seen_number (seen_call t ours id client addresses))
  pub client_never : (t ours id : List ℕ) (client : Bool) (addresses : List ℕ) → client ≡ true → Neither13Nor14 (seen_number (seen_call t ours id client addresses))
  -- a refusal, 13 too, changes nothing
  pub seen_refused : (t ours id : List ℕ) (client : Bool) (addresses : List ℕ) → seen_number (seen_call t ours id client addresses) < 64 → seen_call_table t ours id client addresses ≡ t
  pub settle_refused : (t ours head id : List ℕ) (client : Bool) (addresses : List ℕ) (answered : Bool) → settle_number (settle_call t ours head id client addresses answered) < 64
      → settle_call_table t ours head id client addresses answered ≡ t
  pub remove_refused : (t ours id : List ℕ) → remove_number (remove_call t ours id) < 64 → remove_call_table t ours id ≡ t
  pub doubt_refused : (t ours id : List ℕ) → doubt_number (doubt_call t ours id) < 64 → doubt_call_table t ours id ≡ t
  -- each answer does what it says; those of seen and settle, where ours is a place
  pub seen_does : (t ours id : List ℕ) (client : Bool) (addresses : List ℕ) → length ours ≡ 32 → Bytes ours
      → SeenDoes t ours id addresses (seen_call t ours id client addresses) (seen_call_table t ours id client addresses)
  pub settle_does : (t ours head id : List ℕ) (client : Bool) (addresses : List ℕ) (answered : Bool) → length ours ≡ 32 → Bytes ours
      → SettleDoes t ours head id addresses (settle_call t ours head id client addresses answered) (settle_call_table t ours head id client addresses answered)
  pub remove_does : (t ours id : List ℕ) → RemoveDoes t ours id (remove_call t ours id) (remove_call_table t ours id)
  pub doubt_does : (t ours id : List ℕ) → DoubtDoes t id (doubt_call t ours id) (doubt_call_table t ours id)
  -- what a message makes of the table where its sender is a server (node_promises, `MessageDone`) is a seen of that peer, as an open gave it
  pub beside : (t ours id addresses : List ℕ) → Admits t ours id
      → (sighting_of t ours (peer_of id (place_of id) addresses) ≡ seen_call t ours id false addresses) × (seen_table t ours (peer_of id (place_of id) addresses) ≡ seen_call_table t ours id false addresses)
  -- "Evicting a head that answered" can't be: every contact is still there, whatever the table
  pub unevicted : (t ours head id : List ℕ) (client : Bool) (addresses : List ℕ) (j : ℕ) → j < slots_of t
      → SameContact (slot (settle_call_table t ours head id client addresses true) j) (slot t j)
  -- "Freed slots are used again": after a remove nobody gets 14
  pub reused : (t ours id other : List ℕ) (client : Bool) (addresses : List ℕ) → remove_number (remove_call t ours id) ≡ 64
      → seen_number (seen_call (remove_call_table t ours id) ours other client addresses) ≡ 14 → ⊥
  -- "Bucket order, probes and room ignore the mark": of a marked table seen and settle are told what they would have been told
  pub seen_ignores : (t ours id other : List ℕ) (client : Bool) (addresses : List ℕ)
      → seen_call (doubt_call_table t ours id) ours other client addresses ≡ seen_call t ours other client addresses
  pub settle_ignores : (t ours id head other : List ℕ) (client : Bool) (addresses : List ℕ) (answered : Bool)
      → settle_call (doubt_call_table t ours id) ours head other client addresses answered ≡ settle_call t ours head other client addresses answered
  -- "The nearest-contacts query .. passes over doubtful ones": who was marked isn't given, as near as it may be
  pub hidden : (t ours id x : List ℕ) → doubt_number (doubt_call t ours id) ≡ 64 → Gives (doubt_call_table t ours id) x (held_at t (place_of id)) → ⊥
  -- "being seen, or answering a probe, clears the mark": it is the first for its own place. Lent memory has bytes alone
  pub seen_given : (t ours id : List ℕ) (client : Bool) (addresses : List ℕ) → length ours ≡ 32 → Bytes ours → Bytes (seen_call_table t ours id client addresses) → (i : ℕ)
      → (seen_call t ours id client addresses ≡ Ok (seen.Moved i)) ⊎ (seen_call t ours id client addresses ≡ Ok (seen.Joined i)) → GivesFirst (seen_call_table t ours id client addresses) (place_of id) i
  pub answerer_given : (t ours head id : List ℕ) (client : Bool) (addresses : List ℕ) (answered : Bool) → length ours ≡ 32 → Bytes ours
      → Bytes (settle_call_table t ours head id client addresses answered) → settle_call t ours head id client addresses answered ≡ Ok settle.Kept
      → GivesFirst (settle_call_table t ours head id client addresses answered) (place_of head) (held_at t (place_of head))
  -- "memory once cleared" is in form, and each call keeps it so; seen and settle, where ours is a place
  pub cleared : (t ours : List ℕ) → ((k : ℕ) → get_or t k 0 ≡ 0) → in_form t ours ≡ true
  pub seen_form : (t ours : List ℕ) → length ours ≡ 32 → Bytes ours → in_form t ours ≡ true
      → (id : List ℕ) (client : Bool) (addresses : List ℕ) → in_form (seen_call_table t ours id client addresses) ours ≡ true
  pub settle_form : (t ours : List ℕ) → length ours ≡ 32 → Bytes ours → in_form t ours ≡ true
      → (head id : List ℕ) (client : Bool) (addresses : List ℕ) (answered : Bool) → in_form (settle_call_table t ours head id client addresses answered) ours ≡ true
  pub remove_form : (t ours id : List ℕ) → in_form t ours ≡ true → in_form (remove_call_table t ours id) ours ≡ true
  pub doubt_form : (t ours id : List ℕ) → in_form t ours ≡ true → in_form (doubt_call_table t ours id) ours ≡ true
