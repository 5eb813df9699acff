-- Seen, settle, remove and doubt on the contact table: RULES, Places and contacts. Each is an answer, and what the answer does to the table.
use Rattle.std.specs.Prelude.{ℕ, Bool, not, ◌&&◌, cond, List, ltb, leb, eqb}
use Rattle.limits.specs.Limits.{bucket_size}
use Rattle.place.specs.Place.{bucket_of}
use Rattle.contacts.specs.Table.{slots_of, slot, mark}
use Rattle.refusal.specs.declared.Refusal.TheVariants.{NoContactSlot, NoLongerFits}
use Rattle.peer.specs.declared.Peer.{Peer}
use Rattle.contact_order.specs.Order.{held_at, free_at, head_at, tail_of}
use Rattle.sightings.specs.Order.{move_to_tail, move_and_renew, dropped, join_at, join, doubt_at}
use Rattle.sightings.specs.declared.Sighting.{Sighting}
use Rattle.sightings.specs.declared.Sighting.TheVariants as seen
use Rattle.sightings.specs.declared.Settled.{Settled}
use Rattle.sightings.specs.declared.Settled.TheVariants as settle
unfoldable pub use Rattle.contact_order.specs.Order.{held}
use Rattle.std.specs.Prelude.{Ok, Err, Result, ⊤}
use Rattle.refusal.specs.declared.Refusal.{Refusal}

-- ---- seen
-- "a held contact moves to its bucket's tail ..; a new one joins the tail ..; else 13 or 14": for a peer not held,
unfoldable pub newcomer : List ℕ → List ℕ → Peer → Result Sighting Refusal
newcomer t ours p =
    cond (leb bucket_size (tail_of t ours (bucket_of p.place ours))) ((Ok (seen.Probe (head_at t ours (bucket_of p.place ours)))))
    (cond (ltb (free_at t) (slots_of t)) (Ok (seen.Joined (free_at t))) (Err NoContactSlot))

-- and for any peer
unfoldable pub sighting_of : List ℕ → List ℕ → Peer → Result Sighting Refusal
sighting_of t ours p = cond (held t p.place) (Ok (seen.Moved (held_at t p.place))) (newcomer t ours p)

unfoldable pub after_sighting : List ℕ → List ℕ → Peer → Result Sighting Refusal → List ℕ
after_sighting t ours p (Ok (seen.Moved i)) = move_and_renew t ours i p
after_sighting t ours p (Ok (seen.Joined i)) = join_at t ours i p
after_sighting t ours p (Ok (seen.Probe h)) = t
after_sighting t ours p (Err r) = t

unfoldable pub seen_table : List ℕ → List ℕ → Peer → List ℕ
seen_table t ours p = after_sighting t ours p (sighting_of t ours p)

-- ---- settle
-- "15 unless the bucket is full, the head is still its head, and the newcomer is of that bucket and not held"
unfoldable pub fits : List ℕ → List ℕ → List ℕ → List ℕ → Bool
fits t ours head p =
    held t head
    && (eqb (mark (slot t (held_at t head))) 1
    && (eqb (bucket_of p ours) (bucket_of head ours)
    && (eqb (tail_of t ours (bucket_of head ours)) bucket_size && not (held t p))))

unfoldable pub settlement_of : List ℕ → List ℕ → List ℕ → Peer → Bool → Result Settled Refusal
settlement_of t ours head p answered = cond (fits t ours head p.place) (cond answered (Ok settle.Kept) (Ok settle.Swapped)) (Err NoLongerFits)

-- "Head answered: it moves to the tail, newcomer dropped. Head silent: removed, newcomer at the tail."
unfoldable pub after_settling : List ℕ → List ℕ → List ℕ → Peer → Result Settled Refusal → List ℕ
after_settling t ours head p (Ok settle.Kept) = move_to_tail t ours (held_at t head)
after_settling t ours head p (Ok settle.Swapped) = join (dropped t ours (held_at t head)) ours p
after_settling t ours head p (Err r) = t

unfoldable pub settled_table : List ℕ → List ℕ → List ℕ → Peer → Bool → List ℕ
settled_table t ours head p answered = after_settling t ours head p (settlement_of t ours head p answered)

-- ---- remove
-- "Remove of a contact not held: 15."
unfoldable pub removal_of : List ℕ → List ℕ → Result ⊤ Refusal
removal_of t p = cond (held t p) (Ok tt) (Err NoLongerFits)

unfoldable pub after_removal : List ℕ → List ℕ → List ℕ → Result ⊤ Refusal → List ℕ
after_removal t ours p (Ok tt) = dropped t ours (held_at t p)
after_removal t ours p (Err r) = t

unfoldable pub removed_table : List ℕ → List ℕ → List ℕ → List ℕ
removed_table t ours p = after_removal t ours p (removal_of t p)

-- ---- doubt
-- "The host can mark a held contact as doubtful .. Marking one not held gives 15."
unfoldable pub marking_of : List ℕ → List ℕ → Result ⊤ Refusal
marking_of t p = cond (held t p) (Ok tt) (Err NoLongerFits)

unfoldable pub after_marking : List ℕ → List ℕ → Result ⊤ Refusal → List ℕ
after_marking t p (Ok tt) = doubt_at t (held_at t p)
after_marking t p (Err r) = t

unfoldable pub marked_table : List ℕ → List ℕ → List ℕ
marked_table t p = after_marking t p (marking_of t p)
