-- What being in form comes to, as facts: RULES, Places and contacts. `claims` (proofs/Claims.antt) has all of them.
use Rattle.std.specs.Prelude.{ℕ, ◌+◌, ◌<◌, ◌≤◌, ◌≡◌, true, ◌&&◌, List, eqb, length}
use Rattle.octets.specs.Octets.{Bytes}
use Rattle.octets.specs.Search.{count}
use Rattle.limits.specs.Limits.{most_id, most_address, most_addresses, bucket_size}
use Rattle.contact_table.specs.Table.{slots_of, slot, mark, used, doubt, id_size, address_count, address_size, place, id, addresses}
use Rattle.contact_table.specs.Contact.{entry_id, entry_addresses}
use Rattle.contact_form.specs.Form.{buckets, rank, slot_bucket, in_form}

-- ---- the facts: of a used slot by itself
pub record Fields (s : List ℕ) : Type 0 where
  pub ranked : mark s ≤ bucket_size
  pub doubted : doubt s ≤ 1
  pub id_least : 1 ≤ id_size s
  pub id_most : id_size s ≤ most_id
  pub few : address_count s ≤ most_addresses
  pub sizes : (k : ℕ) → k < address_count s → (1 ≤ address_size s k) × (address_size s k ≤ most_address)

-- and of the table t, where our place is o
pub record InForm (t o : List ℕ) : Type 0 where
  pub fields : (i : ℕ) → i < slots_of t → used (slot t i) ≡ true → Fields (slot t i)
  pub bucket : (i : ℕ) → i < slots_of t → used (slot t i) ≡ true → slot_bucket (slot t i) o < buckets
  -- no place twice
  pub once : (i j : ℕ) → i < slots_of t → j < slots_of t → used (slot t i) ≡ true → used (slot t j) ≡ true
      → place (slot t i) ≡ place (slot t j) → i ≡ j
  -- no tie
  pub untied : (i j : ℕ) → i < slots_of t → j < slots_of t → used (slot t i) ≡ true → used (slot t j) ≡ true
      → slot_bucket (slot t j) o ≡ slot_bucket (slot t i) o → rank (slot t j) ≡ rank (slot t i) → i ≡ j
  -- no gap
  pub below : (i : ℕ) → i < slots_of t → used (slot t i) ≡ true → (rank (slot t i) ≡ 0 → ⊥)
      → (j : ℕ) × (j < slots_of t) × (used (slot t j) ≡ true) × (slot_bucket (slot t j) o ≡ slot_bucket (slot t i) o) × (rank (slot t j) + 1 ≡ rank (slot t i))

-- what a reply gives of a contact is its id and its addresses: nothing is cut
pub record Entry (s : List ℕ) : Type 0 where
  pub same_id : entry_id s ≡ id s
  pub same_addresses : entry_addresses s ≡ addresses s
  pub id_some : 1 ≤ length (entry_id s)

-- ---- the claims
-- of a table in form
pub record Follows (t o : List ℕ) : Type 0 where
  pub facts : InForm t o
  -- "at most 20 to a bucket"
  pub twenty : (b : ℕ) → count (slots_of t) (λ i. used (slot t i) && eqb (slot_bucket (slot t i) o) b) ≤ 20
  -- "ranked there 0 up with no gap": each rank below one that is held is held
  pub ranks : (d i : ℕ) → i < slots_of t → used (slot t i) ≡ true → d ≤ rank (slot t i)
      → (j : ℕ) × (j < slots_of t) × (used (slot t j) ≡ true) × (slot_bucket (slot t j) o ≡ slot_bucket (slot t i) o) × (rank (slot t j) + d ≡ rank (slot t i))
  -- "no place .. ours"
  pub others : (i : ℕ) → i < slots_of t → used (slot t i) ≡ true → place (slot t i) ≡ o → ⊥
  pub entries : (i : ℕ) → i < slots_of t → used (slot t i) ≡ true → Entry (slot t i)

pub record Claims : Type 0 where
  -- a table is in form exactly where the facts hold
  pub follows : (t o : List ℕ) → in_form t o ≡ true → Follows t o
  pub suffices : (t o : List ℕ) → InForm t o → in_form t o ≡ true
  -- of places none but ours is without a bucket
  pub bucketed : (t o : List ℕ) → length o ≡ 32 → Bytes o → Bytes t → (i : ℕ) → i < slots_of t → (place (slot t i) ≡ o → ⊥) → slot_bucket (slot t i) o < buckets
