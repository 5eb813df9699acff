-- When a table of contacts is in form: RULES, Places and contacts. "In form: used slots have an id of 1 to 64 bytes and up to four
-- addresses of 1 to 128, no place twice or ours, at most 20 to a bucket, ranked there 0 up with no gap or tie". A free slot has no form.
use Rattle.std.specs.Prelude.{ℕ, ◌+◌, ◌-◌, Bool, not, ◌&&◌, ◌||◌, List, [], ◌∷◌, ltb, leb, eqb}
use Rattle.octets.specs.Octets.{same}
use Rattle.octets.specs.Search.{all, some, all_of}
use Rattle.limits.specs.Limits.{most_id, most_address, most_addresses, bucket_size}
use Rattle.place.specs.Place.{bucket_of}
use Rattle.contact_table.specs.Table.{slots_of, slot, mark, used, doubt, id_size, address_count, address_size, place}

-- buckets 0 to 255
abbrev pub buckets : ℕ
buckets = 256

-- ---- a used slot by itself
-- byte 0 has the rank in the bucket, 0 up, plus 1
unfoldable pub rank : List ℕ → ℕ
rank s = mark s - 1

-- the bucket of a slot's place, where ours is o
unfoldable pub slot_bucket : List ℕ → List ℕ → ℕ
slot_bucket s o = bucket_of (place s) o

-- "addresses of 1 to 128"
unfoldable pub address_fits : List ℕ → ℕ → Bool
address_fits s k = leb 1 (address_size s k) && leb (address_size s k) most_address

-- "an id of 1 to 64 bytes and up to four addresses"; the rank is one of a bucket's twenty, and the mark of doubt is 0 or 1
unfoldable pub fields_fit : List ℕ → Bool
fields_fit s =
    all_of
    (leb (mark s) bucket_size
    ∷ leb (doubt s) 1
    ∷ leb 1 (id_size s)
    ∷ leb (id_size s) most_id
    ∷ leb (address_count s) most_addresses
    ∷ all (address_count s) (address_fits s)
    ∷ [])

-- ---- two used slots
-- the same rank in the same bucket
unfoldable pub tied : List ℕ → List ℕ → List ℕ → Bool
tied o s v = eqb (slot_bucket v o) (slot_bucket s o) && eqb (rank v) (rank s)

-- v ranks just below s in the same bucket
unfoldable pub just_below : List ℕ → List ℕ → List ℕ → Bool
just_below o s v = eqb (slot_bucket v o) (slot_bucket s o) && eqb (rank v + 1) (rank s)

-- ---- a slot of a table
-- slot j is slot i, or it is free, or it has another place and isn't tied with slot i
unfoldable pub apart : List ℕ → List ℕ → ℕ → ℕ → Bool
apart t o i j =
    eqb j i || (not (used (slot t j)) || (not (same (place (slot t i)) (place (slot t j))) && not (tied o (slot t i) (slot t j))))

-- slot j is used and ranks just below slot i
unfoldable pub leads : List ℕ → List ℕ → ℕ → ℕ → Bool
leads t o i j = used (slot t j) && just_below o (slot t i) (slot t j)

-- what each used slot i has: fields that fit; a bucket, which our own place has not; no place and no rank in its bucket that another slot has
-- too; and rank 0, or a slot just below it. So the ranks of a bucket are 0 up to at most 19, each once
unfoldable pub good : List ℕ → List ℕ → ℕ → Bool
good t o i =
    all_of
    (fields_fit (slot t i)
    ∷ ltb (slot_bucket (slot t i) o) buckets
    ∷ all (slots_of t) (apart t o i)
    ∷ (eqb (rank (slot t i)) 0 || some (slots_of t) (leads t o i))
    ∷ [])

unfoldable pub good_or_free : List ℕ → List ℕ → ℕ → Bool
good_or_free t o i = not (used (slot t i)) || good t o i

-- the table t is in form, where our place is o
unfoldable pub in_form : List ℕ → List ℕ → Bool
in_form t o = all (slots_of t) (good_or_free t o)
