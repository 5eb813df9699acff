-- Seen, settle, remove and doubt as a host calls them: RULES, Refusals, and RULES, Places and contacts. Each is an answer, and what the answer does to the table: a
-- refusal does nothing.
use Rattle.std.specs.Prelude.{ℕ, Bool, not, cond, List}
use Rattle.place.specs.Place.{place_of}
use Rattle.refusal.specs.declared.Refusal.TheVariants.{OutOfForm, BadPeer, BucketFull, NoLongerFits, Client}
use Rattle.refusal.specs.Refusal.{number_of}
use Rattle.contacts.specs.Form.{in_form}
use Rattle.peer.specs.Peers.{bad_peer, peer_of}
use Rattle.sightings.specs.declared.Sighting.{Sighting}
use Rattle.sightings.specs.declared.Sighting.TheVariants as seen
use Rattle.sightings.specs.declared.Settled.{Settled}
use Rattle.sightings.specs.declared.Settled.TheVariants as settle
use Rattle.sightings.specs.Sightings.{sighting_of, after_sighting, fits, settlement_of, after_settling, removal_of, after_removal, marking_of, after_marking}
use Rattle.std.specs.Prelude.{Ok, Err, Result, ⊤}
use Rattle.refusal.specs.declared.Refusal.{Refusal}

-- ---- seen: 0, 12, 18, then held, 13, 14 ("18 before 13 and 14, and a peer already held is never 13 or 14")
unfoldable pub seen_call : List ℕ → List ℕ → List ℕ → Bool → List ℕ → Result Sighting Refusal
seen_call t ours id client addresses =
    cond (not (in_form t ours)) (Err OutOfForm)
    (cond (bad_peer ours id) (Err BadPeer)
    (cond client (Err Client) (sighting_of t ours (peer_of id (place_of id) addresses))))

unfoldable pub seen_call_table : List ℕ → List ℕ → List ℕ → Bool → List ℕ → List ℕ
seen_call_table t ours id client addresses = after_sighting t ours (peer_of id (place_of id) addresses) (seen_call t ours id client addresses)

-- ---- settle: 0, 12 for either id, 15, 18
unfoldable pub settle_call : List ℕ → List ℕ → List ℕ → List ℕ → Bool → List ℕ → Bool → Result Settled Refusal
settle_call t ours head id client addresses answered =
    cond (not (in_form t ours)) (Err OutOfForm)
    (cond (bad_peer ours head) (Err BadPeer)
    (cond (bad_peer ours id) (Err BadPeer)
    (cond (not (fits t ours (place_of head) (place_of id))) (Err NoLongerFits)
    (cond client (Err Client) (settlement_of t ours (place_of head) (peer_of id (place_of id) addresses) answered)))))

unfoldable pub settle_call_table : List ℕ → List ℕ → List ℕ → List ℕ → Bool → List ℕ → Bool → List ℕ
settle_call_table t ours head id client addresses answered =
    after_settling t ours (place_of head) (peer_of id (place_of id) addresses) (settle_call t ours head id client addresses answered)

-- ---- remove: 0, 12, 15
unfoldable pub remove_call : List ℕ → List ℕ → List ℕ → Result ⊤ Refusal
remove_call t ours id =
    cond (not (in_form t ours)) (Err OutOfForm)
    (cond (bad_peer ours id) (Err BadPeer) (removal_of t (place_of id)))

unfoldable pub remove_call_table : List ℕ → List ℕ → List ℕ → List ℕ
remove_call_table t ours id = after_removal t ours (place_of id) (remove_call t ours id)

-- ---- doubt: 0, 12, 15 ("Marking one not held gives 15")
unfoldable pub doubt_call : List ℕ → List ℕ → List ℕ → Result ⊤ Refusal
doubt_call t ours id =
    cond (not (in_form t ours)) (Err OutOfForm)
    (cond (bad_peer ours id) (Err BadPeer) (marking_of t (place_of id)))

unfoldable pub doubt_call_table : List ℕ → List ℕ → List ℕ → List ℕ
doubt_call_table t ours id = after_marking t (place_of id) (doubt_call t ours id)

-- ---- the number of each answer, which a host is told: a refusal's own, or one from 64 up
-- 64 moved, 65 joined; a bucket that is full is a refusal, beside which its head is named
abbrev pub seen_number : Result Sighting Refusal → ℕ
seen_number (Ok (seen.Moved i)) = 64
seen_number (Ok (seen.Joined i)) = 65
seen_number (Ok (seen.Probe h)) = number_of BucketFull
seen_number (Err r) = number_of r

-- 64 kept, 65 swapped
abbrev pub settle_number : Result Settled Refusal → ℕ
settle_number (Ok settle.Kept) = 64
settle_number (Ok settle.Swapped) = 65
settle_number (Err r) = number_of r

abbrev pub remove_number : Result ⊤ Refusal → ℕ
remove_number (Ok tt) = 64
remove_number (Err r) = number_of r

abbrev pub doubt_number : Result ⊤ Refusal → ℕ
doubt_number (Ok tt) = 64
doubt_number (Err r) = number_of r
