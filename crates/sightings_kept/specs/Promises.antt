-- What seen, settle, remove and doubt promise of a table in form: who moves, who comes, who goes, and that nobody else is touched. `claims` (proofs/Claims.antt) has all of it.
use Rattle.std.specs.Prelude.{ℕ, ◌*◌, ◌<◌, ◌≤◌, ◌≡◌, ◌⊎◌, Bool, true, false, List, [], length, get_or, drop, ltb}
use Rattle.octets.specs.Search.{count}
use Rattle.octets.specs.Octets.{Bytes}
use Rattle.limits.specs.Limits.{most_id, most_address, most_addresses, addresses_size, place_size}
use Rattle.place.specs.Place.{place_of, bucket_of}
use Rattle.contacts.specs.Table.{slot_size, slots_of, slot, mark, used, doubtful, place, id, addresses}
use Rattle.contacts.specs.Form.{in_form}
use Rattle.contacts.specs.Claims.{GivesFirst}
use Rattle.refusal.specs.declared.Refusal.TheVariants.{NoContactSlot, NoLongerFits}
use Rattle.peer.specs.declared.Peer.{Peer}
use Rattle.peer.specs.Peers.{id_in, addresses_in}
use Rattle.sightings.specs.declared.Sighting.TheVariants as seen
use Rattle.sightings.specs.declared.Settled.TheVariants as settle
use Rattle.sightings.specs.Order.{of_bucket, is_at, is_head, held_at, free_at, tail_of, free_bytes, dropped}
use Rattle.sightings.specs.Sightings.{held, sighting_of, seen_table, settlement_of, settled_table, removal_of, removed_table, marking_of, marked_table}
use Rattle.std.specs.Prelude.{Ok, Err}

-- a peer that may come in: an id of 1 to 64 bytes, up to four addresses of 1 to 128, a place that isn't ours
pub record Fair (ours : List ℕ) (p : Peer) : Type 0 where
  pub id_least : 1 ≤ p.size
  pub id_most : p.size ≤ most_id
  pub few : p.count ≤ most_addresses
  pub sizes : (k : ℕ) → k < p.count → (1 ≤ get_or p.lens k 0) × (get_or p.lens k 0 ≤ most_address)
  pub other : bucket_of p.place ours < 256
  pub lens_long : length p.lens ≡ most_addresses
  pub place_long : length p.place ≡ place_size
  pub id_long : length p.id ≡ most_id
  pub addrs_long : length p.addrs ≡ addresses_size

-- two slots say the same of a contact
pub record SameContact (s v : List ℕ) : Type 0 where
  pub same_id : id s ≡ id v
  pub same_place : place s ≡ place v
  pub same_addresses : addresses s ≡ addresses v
  pub same_use : used s ≡ used v

-- from t to u, all but some slots keep their contacts, these their order in each bucket and their marks of doubt, and the bytes past the slots stay
pub record Others (t ours u : List ℕ) (but : ℕ → Type 0) : Type 0 where
  pub slots : slots_of u ≡ slots_of t
  pub contact : (j : ℕ) → j < slots_of t → (but j → ⊥) → SameContact (slot u j) (slot t j)
  pub order : (b j k : ℕ) → j < slots_of t → k < slots_of t → (but j → ⊥) → (but k → ⊥) → of_bucket ours b (slot t j) ≡ true → of_bucket ours b (slot t k) ≡ true
      → ltb (mark (slot u j)) (mark (slot u k)) ≡ ltb (mark (slot t j)) (mark (slot t k))
  pub doubts : (j : ℕ) → j < slots_of t → (but j → ⊥) → doubtful (slot u j) ≡ doubtful (slot t j)
  pub outside : drop (slots_of t * slot_size) u ≡ drop (slots_of t * slot_size) t

-- the peer p is held in slot i of u, at its bucket's tail, and isn't doubtful
pub record AtTail (ours : List ℕ) (p : List ℕ) (i : ℕ) (u : List ℕ) : Type 0 where
  pub within : i < slots_of u
  pub here : is_at p (slot u i) ≡ true
  pub last : mark (slot u i) ≡ tail_of u ours (bucket_of p ours)
  pub trusted : doubtful (slot u i) ≡ false

-- how many contacts a bucket holds
unfoldable pub holds : List ℕ → List ℕ → ℕ → ℕ
holds t ours b = count (slots_of t) (λ i. of_bucket ours b (slot t i))

-- a settle still fits the table: "the bucket is full, the head is still its head, and the newcomer is of that bucket and not held"
pub record StillFits (t ours head p : List ℕ) : Type 0 where
  pub head_held : held t head ≡ true
  pub still_head : is_head ours (bucket_of head ours) (slot t (held_at t head)) ≡ true
  pub full : holds t ours (bucket_of head ours) ≡ 20
  pub of_that : bucket_of p ours ≡ bucket_of head ours
  pub not_held : held t p ≡ false

-- every contact lies at the hash of its id; and so does a peer
abbrev pub Hashed : List ℕ → Type 0
Hashed t = (i : ℕ) → i < slots_of t → used (slot t i) ≡ true → place (slot t i) ≡ place_of (id (slot t i))

abbrev pub HashedPeer : Peer → Type 0
HashedPeer p = p.place ≡ place_of (id_in p)

-- ---- what a call makes of the table t: u
-- the held contact at place p moves to its bucket's tail and keeps its id; nobody else is touched. It takes the new addresses if there are any
pub record HeldSeen (t ours p : List ℕ) (new : List (List ℕ)) (i : ℕ) (u : List ℕ) : Type 0 where
  pub others : Others t ours u (λ j. j ≡ i)
  pub tail : AtTail ours p i u
  pub same_id : id (slot u i) ≡ id (slot t i)
  pub old_addresses : new ≡ [] → addresses (slot u i) ≡ addresses (slot t i)
  pub new_addresses : (new ≡ [] → ⊥) → addresses (slot u i) ≡ new

-- a newcomer of place p joins the tail in the lowest free slot, with its own id and addresses; nobody else is touched
pub record NewSeen (t ours p own : List ℕ) (new : List (List ℕ)) (i : ℕ) (u : List ℕ) : Type 0 where
  pub others : Others t ours u (λ j. j ≡ i)
  pub tail : AtTail ours p i u
  pub same_id : id (slot u i) ≡ own
  pub same_addresses : addresses (slot u i) ≡ new
  pub was_free : used (slot t i) ≡ false
  pub lowest : (j : ℕ) → j < i → used (slot t j) ≡ true

-- the contact's slot is free afterwards, and holds zeros; it is held no more; nobody else is touched
pub record Freed (t ours p : List ℕ) (i : ℕ) (u : List ℕ) : Type 0 where
  pub others : Others t ours u (λ j. j ≡ i)
  pub cleared : slot u i ≡ free_bytes
  pub gone : held u p ≡ false
  pub room : free_at u < slots_of u

-- the head answered: it is at the tail, and nobody is touched otherwise
pub record HeadKept (t ours head u : List ℕ) : Type 0 where
  pub others : Others t ours u (λ j. j ≡ held_at t head)
  pub tail : AtTail ours head (held_at t head) u
  pub same_head : SameContact (slot u (held_at t head)) (slot t (held_at t head))

-- the head was silent: it is gone, and the newcomer is at the tail in the lowest slot that is then free; nobody else is touched
pub record HeadGone (t ours head p own : List ℕ) (new : List (List ℕ)) (u : List ℕ) : Type 0 where
  pub others : Others t ours u (λ j. (j ≡ held_at t head) ⊎ (j ≡ free_at (dropped t ours (held_at t head))))
  pub newcomer : NewSeen (dropped t ours (held_at t head)) ours p own new (free_at (dropped t ours (held_at t head))) u
  pub gone : held u head ≡ false

-- the contact of slot i is marked as doubtful: its id, place, addresses and rank stay, and every byte behind the mark; no other slot changes, and no byte past the slots
pub record OnlyMarked (t : List ℕ) (i : ℕ) (u : List ℕ) : Type 0 where
  pub slots : slots_of u ≡ slots_of t
  pub marked : doubtful (slot u i) ≡ true
  pub contact : SameContact (slot u i) (slot t i)
  pub rank : mark (slot u i) ≡ mark (slot t i)
  pub bytes : drop 2 (slot u i) ≡ drop 2 (slot t i)
  pub others : (j : ℕ) → (j ≡ i → ⊥) → slot u j ≡ slot t j
  pub outside : drop (slots_of t * slot_size) u ≡ drop (slots_of t * slot_size) t

-- ---- the promises, of a table in form
pub record Promised (t ours : List ℕ) : Type 0 where
  -- form is kept by each call
  pub seen_form : (p : Peer) → Fair ours p → in_form (seen_table t ours p) ours ≡ true
  pub settle_form : (head : List ℕ) (p : Peer) (answered : Bool) → Fair ours p → in_form (settled_table t ours head p answered) ours ≡ true
  pub remove_form : (p : List ℕ) → in_form (removed_table t ours p) ours ≡ true
  pub doubt_form : (p : List ℕ) → in_form (marked_table t p) ours ≡ true
  -- and so is that every contact lies at the hash of its id
  pub seen_hashed : (p : Peer) → Fair ours p → HashedPeer p → Hashed t → Hashed (seen_table t ours p)
  pub settle_hashed : (head : List ℕ) (p : Peer) (answered : Bool) → Fair ours p → HashedPeer p → Hashed t → Hashed (settled_table t ours head p answered)
  pub remove_hashed : (p : List ℕ) → Hashed t → Hashed (removed_table t ours p)
  pub doubt_hashed : (p : List ℕ) → Hashed t → Hashed (marked_table t p)
  -- the mark of a bucket's tail is how many the bucket holds
  pub counted : (b : ℕ) → tail_of t ours b ≡ holds t ours b
  -- seen of a contact that is held
  pub moved : (p : Peer) → Fair ours p → held t p.place ≡ true
      → (sighting_of t ours p ≡ Ok (seen.Moved (held_at t p.place))) × HeldSeen t ours p.place (addresses_in p) (held_at t p.place) (seen_table t ours p)
  -- seen of one that isn't. Its bucket holds 20: nothing changes, and the head is named
  pub full : (p : Peer) → held t p.place ≡ false → 20 ≤ holds t ours (bucket_of p.place ours)
      → (h : ℕ) × (sighting_of t ours p ≡ Ok (seen.Probe h)) × (h < slots_of t) × (is_head ours (bucket_of p.place ours) (slot t h) ≡ true) × (seen_table t ours p ≡ t)
  -- the bucket has room: it joins where some slot is free, and else nothing changes
  pub joined : (p : Peer) → Fair ours p → held t p.place ≡ false → holds t ours (bucket_of p.place ours) < 20
      → (j : ℕ) → j < slots_of t → used (slot t j) ≡ false → (sighting_of t ours p ≡ Ok (seen.Joined (free_at t))) × NewSeen t ours p.place (id_in p) (addresses_in p) (free_at t) (seen_table t ours p)
  pub no_slot : (p : Peer) → held t p.place ≡ false → holds t ours (bucket_of p.place ours) < 20
      → ((j : ℕ) → j < slots_of t → used (slot t j) ≡ true) → (sighting_of t ours p ≡ Err NoContactSlot) × (seen_table t ours p ≡ t)
  -- settle, where it fits: the head answered, the head was silent; and where it doesn't
  pub kept : (head : List ℕ) (p : Peer) → StillFits t ours head p.place
      → (settlement_of t ours head p true ≡ Ok settle.Kept) × HeadKept t ours head (settled_table t ours head p true)
  pub swapped : (head : List ℕ) (p : Peer) → Fair ours p → StillFits t ours head p.place
      → (settlement_of t ours head p false ≡ Ok settle.Swapped) × HeadGone t ours head p.place (id_in p) (addresses_in p) (settled_table t ours head p false)
  pub stale : (head : List ℕ) (p : Peer) (answered : Bool) → (StillFits t ours head p.place → ⊥)
      → (settlement_of t ours head p answered ≡ Err NoLongerFits) × (settled_table t ours head p answered ≡ t)
  -- "Evicting a head that answered" can't be: where it answered, every contact is still there
  pub unevicted : (head : List ℕ) (p : Peer) (j : ℕ) → j < slots_of t → SameContact (slot (settled_table t ours head p true) j) (slot t j)
  -- remove of a contact that is held, and of one that isn't
  pub gone : (p : List ℕ) → held t p ≡ true → (removal_of t p ≡ Ok tt) × Freed t ours p (held_at t p) (removed_table t ours p)
  pub not_held : (p : List ℕ) → held t p ≡ false → (removal_of t p ≡ Err NoLongerFits) × (removed_table t ours p ≡ t)
  -- "Freed slots are used again": after a remove nobody is refused for want of a slot
  pub reused : (p : List ℕ) (q : Peer) → held t p ≡ true → sighting_of (removed_table t ours p) ours q ≡ Err NoContactSlot → ⊥
  -- doubt of a contact that is held, and of one that isn't
  pub marked : (p : List ℕ) → held t p ≡ true → (marking_of t p ≡ Ok tt) × OnlyMarked t (held_at t p) (marked_table t p)
  pub doubt_not_held : (p : List ℕ) → held t p ≡ false → (marking_of t p ≡ Err NoLongerFits) × (marked_table t p ≡ t)
  -- "Bucket order, probes and room ignore the mark": a sighting and a settle then come to what they would have come to
  pub sighting_ignores : (p : List ℕ) (q : Peer) → sighting_of (marked_table t p) ours q ≡ sighting_of t ours q
  pub settle_ignores : (p head : List ℕ) (q : Peer) (answered : Bool) → settlement_of (marked_table t p) ours head q answered ≡ settlement_of t ours head q answered
  -- "being seen, or answering a probe, clears the mark": whoever a call above puts at a tail is the first for its own place
  pub given : Bytes t → (p : List ℕ) (i : ℕ) → AtTail ours p i t → GivesFirst t p i

abbrev pub Claims : Type 0
Claims = (t ours : List ℕ) → in_form t ours ≡ true → Promised t ours
