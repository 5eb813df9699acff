-- What moves in the contact table: RULES, Places and contacts. Who stands where, the order closing up, and a contact as its slot's bytes are passed on.
use Rattle.std.specs.Prelude.{ℕ, ◌+◌, cond, List, ◌∷◌, replicate, eqb}
use Rattle.std.proofs.lemmas.List.Edits.{sets}
use Rattle.place.specs.Place.{bucket_of}
use Rattle.contact_table.specs.Table.{count_at, addresses_at}
use Rattle.contacts.specs.Table.{slot_size, slot, put_slot, place}
use Rattle.peer.specs.declared.Peer.{Peer}
unfoldable pub use Rattle.peer.specs.Peers.{contact_bytes}
unfoldable pub use Rattle.contact_order.specs.Order.{of_bucket, is_at, is_head, mark_in, held_at, free_at, head_at, tail_of, with_mark, with_doubt, lowered, each, close_up, leave}

-- ---- a slot's bytes
unfoldable pub free_bytes : List ℕ
free_bytes = replicate slot_size 0

-- "takes the new addresses if any is usable"
unfoldable pub with_addresses : Peer → List ℕ → List ℕ
with_addresses p s = sets (sets s count_at (p.count ∷ p.lens)) addresses_at p.addrs

unfoldable pub renewed : Peer → List ℕ → List ℕ
renewed p s = cond (eqb p.count 0) s (with_addresses p s)

-- slot i with its bucket's last mark, and doubtful no more: "being seen, or answering a probe, clears the mark"
unfoldable pub tailed : List ℕ → List ℕ → ℕ → List ℕ
tailed t ours i = with_doubt 0 (with_mark (tail_of t ours (bucket_of (place (slot t i)) ours)) (slot t i))

-- ---- what the calls do: the contact of slot i goes to its bucket's tail; goes there with new addresses; goes; a newcomer joins the tail in slot i
unfoldable pub move_to_tail : List ℕ → List ℕ → ℕ → List ℕ
move_to_tail t ours i = put_slot (leave t ours i) i (tailed t ours i)

unfoldable pub move_and_renew : List ℕ → List ℕ → ℕ → Peer → List ℕ
move_and_renew t ours i p = put_slot (leave t ours i) i (renewed p (tailed t ours i))

unfoldable pub dropped : List ℕ → List ℕ → ℕ → List ℕ
dropped t ours i = put_slot (leave t ours i) i free_bytes

unfoldable pub join_at : List ℕ → List ℕ → ℕ → Peer → List ℕ
join_at t ours i p = put_slot t i (contact_bytes (tail_of t ours (bucket_of p.place ours) + 1) p)

-- "Freed slots are used again": a newcomer takes the lowest free slot
unfoldable pub join : List ℕ → List ℕ → Peer → List ℕ
join t ours p = join_at t ours (free_at t) p

-- the contact of slot i is marked as doubtful, and nothing else changes
unfoldable pub doubt_at : List ℕ → ℕ → List ℕ
doubt_at t i = put_slot t i (with_doubt 1 (slot t i))
