-- What the host's calls promise: a cleared table is in form, calls keep it so, and refusals change nothing. Assumes nothing.
use Prim.Native.Nat.{ℕ, ◌*◌}
use mathlib.Core.Path.{◌≡◌, sym, ap, ◌∙◌}
use mathlib.Core.Bool.{Bool, true, false, not, cond}
use mathlib.Core.List.{List}
use lib.ListN.{length, get_or}
use Rattle.octets.specs.Octets.{Bytes}
use Rattle.octets.proofs.Bools.{or_l, cond_ind}
use Rattle.octets.proofs.Searching.{all-intro}
use Rattle.place.specs.Place.{place_of}
use Rattle.place.proofs.Buckets.{bucket-lt}
use Rattle.place.proofs.Places.{length-place_of, bytes-place_of}
use Rattle.refusal.specs.declared.Refusal.{Refusal}
use Rattle.contacts.specs.Table.{slot_size, slots_of, slot, used}
use Rattle.contacts.specs.Form.{in_form, good_or_free, good}
use Rattle.contact_table.proofs.Cuts.{mark-cut, mark-free}
use Rattle.peer.specs.Peers.{bad_peer, peer_of}
use Rattle.peer.proofs.Meaning.{fits-least, fits-most, not-bad-id, not-bad-place}
use Rattle.sightings_kept.specs.Promises.{Fair}
use Rattle.sightings.specs.declared.Sighting.{Sighting}
use Rattle.sightings.specs.declared.Sighting.TheVariants as seen
use Rattle.sightings.specs.declared.Settled.{Settled}
use Rattle.sightings.specs.Sightings.{after_sighting, seen_table, fits, after_settling, settled_table, after_removal, removed_table}
use Rattle.sightings_kept.proofs.Forms.{fair-peer, seen-keeps, settle-keeps, remove-keeps}
use Rattle.contact_calls.specs.Calls.{seen_call, seen_call_table, settle_call, settle_call_table, remove_call, remove_call_table}
use Rattle.std.specs.Prelude.{Ok, Err, Result, ⊤}

-- "memory once cleared": zeros are in form
pub cleared-in-form : (t o : List ℕ) → ((k : ℕ) → get_or t k 0 ≡ 0) → in_form t o ≡ true
unfolding in_form good_or_free
cleared-in-form t o z =
    all-intro (good_or_free t o) (slots_of t)
    (λ i l. or_l (not (used (slot t i))) (good t o i) (ap not (mark-free (slot t i) (sym (mark-cut t i) ∙ z (i * slot_size)))))

-- a peer that refusal 12 lets in may come in
pub fair : (ours id addresses : List ℕ) → length ours ≡ 32 → Bytes ours → bad_peer ours id ≡ false → Fair ours (peer_of id (place_of id) addresses)
fair ours id addresses l b h =
    let f = not-bad-id ours id h in
    fair-peer ours id (place_of id) addresses (fits-least id f) (fits-most id f) (length-place_of id)
    (bucket-lt (place_of id) ours (length-place_of id) l (bytes-place_of id) b (not-bad-place ours id h))

-- a refusal changes nothing
pub seen-refused : (t ours id : List ℕ) (client : Bool) (addresses : List ℕ) (r : Refusal) → seen_call t ours id client addresses ≡ Err r → seen_call_table t ours id client addresses ≡ t
unfolding seen_call_table after_sighting
seen-refused t ours id client addresses r e = ap (after_sighting t ours (peer_of id (place_of id) addresses)) e

pub seen-probe : (t ours id : List ℕ) (client : Bool) (addresses : List ℕ) (h : ℕ) → seen_call t ours id client addresses ≡ Ok (seen.Probe h) → seen_call_table t ours id client addresses ≡ t
unfolding seen_call_table after_sighting
seen-probe t ours id client addresses h e = ap (after_sighting t ours (peer_of id (place_of id) addresses)) e

pub settle-refused : (t ours head id : List ℕ) (client : Bool) (addresses : List ℕ) (answered : Bool) (r : Refusal) → settle_call t ours head id client addresses answered ≡ Err r
    → settle_call_table t ours head id client addresses answered ≡ t
unfolding settle_call_table after_settling
settle-refused t ours head id client addresses answered r e = ap (after_settling t ours (place_of head) (peer_of id (place_of id) addresses)) e

pub remove-refused : (t ours id : List ℕ) (r : Refusal) → remove_call t ours id ≡ Err r → remove_call_table t ours id ≡ t
unfolding remove_call_table after_removal
remove-refused t ours id r e = ap (after_removal t ours (place_of id)) e

-- ---- calls keep the form
-- remove does so whatever ours is
pub removal-keeps : (t ours id : List ℕ) → in_form t ours ≡ true → in_form (remove_call_table t ours id) ours ≡ true
unfolding remove_call_table remove_call after_removal removed_table
removal-keeps t ours id y = step (not (in_form t ours)) _ _ (λ f. y) (λ f. step (bad_peer ours id) _ _ (λ g. y) (λ g. remove-keeps t ours (place_of id) y))
  where
    step : (c : Bool) (r s : Result ⊤ Refusal) → (c ≡ true → in_form (after_removal t ours (place_of id) r) ours ≡ true) → (c ≡ false → in_form (after_removal t ours (place_of id) s) ours ≡ true)
        → in_form (after_removal t ours (place_of id) (cond c r s)) ours ≡ true
    step = cond_ind (λ (r : Result ⊤ Refusal). in_form (after_removal t ours (place_of id) r) ours ≡ true)

module _ (t ours : List ℕ) (l : length ours ≡ 32) (b : Bytes ours) (y : in_form t ours ≡ true) where
  pub seen-call-keeps : (id : List ℕ) (client : Bool) (addresses : List ℕ) → in_form (seen_call_table t ours id client addresses) ours ≡ true
  unfolding seen_call_table seen_call after_sighting seen_table
  seen-call-keeps id client addresses =
      step (not (in_form t ours)) _ _ (λ f. y) (λ f. step (bad_peer ours id) _ _ (λ g. y) (λ g. step client _ _ (λ c. y) (λ c. seen-keeps t ours (peer_of id (place_of id) addresses) (fair ours id addresses l b g) y)))
    where
      step : (c : Bool) (r s : Result Sighting Refusal) → (c ≡ true → in_form (after_sighting t ours (peer_of id (place_of id) addresses) r) ours ≡ true)
          → (c ≡ false → in_form (after_sighting t ours (peer_of id (place_of id) addresses) s) ours ≡ true) → in_form (after_sighting t ours (peer_of id (place_of id) addresses) (cond c r s)) ours ≡ true
      step = cond_ind (λ (r : Result Sighting Refusal). in_form (after_sighting t ours (peer_of id (place_of id) addresses) r) ours ≡ true)

  pub settle-call-keeps : (head id : List ℕ) (client : Bool) (addresses : List ℕ) (answered : Bool) → in_form (settle_call_table t ours head id client addresses answered) ours ≡ true
  unfolding settle_call_table settle_call after_settling settled_table
  settle-call-keeps head id client addresses answered =
      step (not (in_form t ours)) _ _ (λ f. y)
      (λ f. step (bad_peer ours head) _ _ (λ g. y)
      (λ g. step (bad_peer ours id) _ _ (λ g. y)
      (λ g. step (not (fits t ours (place_of head) (place_of id))) _ _ (λ h. y)
      (λ h. step client _ _ (λ c. y) (λ c. settle-keeps t ours (place_of head) (peer_of id (place_of id) addresses) answered (fair ours id addresses l b g) y)))))
    where
      step : (c : Bool) (r s : Result Settled Refusal) → (c ≡ true → in_form (after_settling t ours (place_of head) (peer_of id (place_of id) addresses) r) ours ≡ true)
          → (c ≡ false → in_form (after_settling t ours (place_of head) (peer_of id (place_of id) addresses) s) ours ≡ true)
          → in_form (after_settling t ours (place_of head) (peer_of id (place_of id) addresses) (cond c r s)) ours ≡ true
      step = cond_ind (λ (r : Result Settled Refusal). in_form (after_settling t ours (place_of head) (peer_of id (place_of id) addresses) r) ours ≡ true)

  pub remove-call-keeps : (id : List ℕ) → in_form (remove_call_table t ours id) ours ≡ true
  remove-call-keeps id = removal-keeps t ours id y
