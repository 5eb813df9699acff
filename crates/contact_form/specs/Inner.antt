-- What only the proofs of the code need: the index that the form test makes.
use Rattle.std.specs.Prelude.{ℕ, ◌+◌, ◌*◌, ◌-◌, ◌%◌, ◌≤◌, ◌<◌, ◌≡◌, Bool, true, cond, not, ◌&&◌, ◌||◌, List, ltb, eqb, length, get_or}
use Rattle.octets.specs.Octets.{part, number, same}
use Rattle.octets.specs.Search.{all}
use Rattle.limits.specs.Limits.{bucket_size}
use Rattle.contact_table.specs.Table.{slot, used, place}
use Rattle.contact_form.specs.declared.Words.{Words}
use Rattle.contact_form.specs.Form.{buckets, rank, slot_bucket, fields_fit}

-- the index: an entry for each rank of each bucket; 0, or the number of the slot that stands there plus 1
abbrev pub index_size : ℕ
index_size = buckets * bucket_size

-- a slot that is fine by itself, and its entry; indexSize where it isn't fine
unfoldable pub fine : List ℕ → List ℕ → Bool
fine s o = fields_fit s && ltb (slot_bucket s o) buckets

unfoldable pub key_of : List ℕ → List ℕ → ℕ
key_of s o = slot_bucket s o * bucket_size + rank s

unfoldable pub key_or : List ℕ → List ℕ → ℕ
key_or s o = cond (fine s o) (key_of s o) index_size

-- the index of the first m slots: each used one is fine by itself and stands at its entry, and nothing else is there
pub record Indexed (t o : List ℕ) (m : ℕ) (a : List ℕ) : Type 0 where
  pub long : length a ≡ index_size
  pub there : (i : ℕ) → i < m → used (slot t i) ≡ true → (fine (slot t i) o ≡ true) × (get_or a (key_of (slot t i) o) 0 ≡ i + 1)
  pub from : (k : ℕ) → 1 ≤ get_or a k 0 → (get_or a k 0 ≤ m) × (used (slot t (get_or a k 0 - 1)) ≡ true) × (key_of (slot t (get_or a k 0 - 1)) o ≡ k)

-- the four words of a place
unfoldable pub words_of : List ℕ → Words
words_of p = record { a = number (part p 0 8); b = number (part p 8 16); c = number (part p 16 24); d = number (part p 24 32) }

-- the slot of an entry has another place than p; an empty entry has none
unfoldable pub other_place : List ℕ → List ℕ → ℕ → Bool
other_place t p e = eqb e 0 || not (same p (place (slot t (e - 1))))

-- the same of the entry d + 1 before entry k
unfoldable pub other_before : List ℕ → List ℕ → List ℕ → ℕ → ℕ → Bool
other_before t p a k d = other_place t p (get_or a (k - (d + 1)) 0)

-- entry k is empty, or a bucket's first, or the one before it isn't empty and none of its bucket before it has its place
unfoldable pub entry_fits : List ℕ → List ℕ → ℕ → Bool
entry_fits t a k =
    eqb (get_or a k 0) 0
    || (eqb (k % bucket_size) 0
    || (not (eqb (get_or a (k - 1) 0) 0) && all (k % bucket_size) (other_before t (place (slot t (get_or a k 0 - 1))) a k)))
