-- Who stands where in the contact table, and how a bucket's order closes up: RULES, Places and contacts.
-- A bucket's order is its contacts' ranks: the head is seen longest ago, the tail last. A slot's mark is its rank plus 1.
use Rattle.std.specs.Prelude.{ℕ, zero, suc, ◌-◌, Bool, not, ◌&&◌, cond, List, set, ltb, eqb}
use Rattle.octets.specs.Octets.{same}
use Rattle.octets.specs.Search.{first, largest}
use Rattle.place.specs.Place.{bucket_of}
use Rattle.contact_table.specs.Table.{doubtful_at}
use Rattle.contacts.specs.Table.{slots_of, slot, put_slot, mark, used, place}

-- ---- whom a slot holds
-- a contact of bucket b
unfoldable pub of_bucket : List ℕ → ℕ → List ℕ → Bool
of_bucket ours b s = used s && eqb (bucket_of (place s) ours) b

-- the contact at place p: "Equal places are one contact"
unfoldable pub is_at : List ℕ → List ℕ → Bool
is_at p s = used s && same (place s) p

-- the head of bucket b
unfoldable pub is_head : List ℕ → ℕ → List ℕ → Bool
is_head ours b s = eqb (mark s) 1 && of_bucket ours b s

-- the mark of a contact of bucket b; 0 for any other slot
unfoldable pub mark_in : List ℕ → ℕ → List ℕ → ℕ
mark_in ours b s = cond (of_bucket ours b s) (mark s) 0

-- ---- where: the slot of the contact at place p, the lowest free slot, the slot of bucket b's head; the number of slots where there is none
unfoldable pub held_at : List ℕ → List ℕ → ℕ
held_at t p = first (slots_of t) (λ i. is_at p (slot t i))

unfoldable pub free_at : List ℕ → ℕ
free_at t = first (slots_of t) (λ i. not (used (slot t i)))

unfoldable pub head_at : List ℕ → List ℕ → ℕ → ℕ
head_at t ours b = first (slots_of t) (λ i. is_head ours b (slot t i))

-- the mark of bucket b's tail, 0 where it is empty; in form it is how many the bucket holds
unfoldable pub tail_of : List ℕ → List ℕ → ℕ → ℕ
tail_of t ours b = largest (slots_of t) (λ i. mark_in ours b (slot t i))

-- some slot holds the contact at place p
unfoldable pub held : List ℕ → List ℕ → Bool
held t p = ltb (held_at t p) (slots_of t)

-- ---- a slot with another mark, and with another mark of doubt
unfoldable pub with_mark : ℕ → List ℕ → List ℕ
with_mark m s = set s 0 m

unfoldable pub with_doubt : ℕ → List ℕ → List ℕ
with_doubt d s = set s doubtful_at d

-- ---- the order closes up; "Bucket order, probes and room ignore the mark" of doubt, and who moves forward keeps it
-- those of bucket b behind the mark m move one forward
unfoldable pub lowered : List ℕ → ℕ → ℕ → List ℕ → List ℕ
lowered ours b m s = cond (ltb m (mark s) && of_bucket ours b s) (with_mark (mark s - 1) s) s

-- each of the first n slots, changed by f
unfoldable pub each : (List ℕ → List ℕ) → ℕ → List ℕ → List ℕ
each f zero t = t
each f (suc n) t = put_slot (each f n t) n (f (slot t n))

unfoldable pub close_up : List ℕ → List ℕ → ℕ → ℕ → List ℕ
close_up t ours b m = each (lowered ours b m) (slots_of t) t

-- slot i goes out of its bucket's order: those behind it close up
unfoldable pub leave : List ℕ → List ℕ → ℕ → List ℕ
leave t ours i = close_up t ours (bucket_of (place (slot t i)) ours) (mark (slot t i))
