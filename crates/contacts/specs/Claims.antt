-- What the twenty nearest are. `claims` (proofs/Claims.antt) has all of it.
use Rattle.std.specs.Prelude.{ℕ, ◌<◌, ◌≤◌, min, ◌≡◌, true, false, List, length, get_or, take}
use Rattle.octets.specs.Octets.{Bytes}
use Rattle.octets.specs.Search.{count}
use Rattle.limits.specs.Limits.{most_near}
use Rattle.contacts.specs.Table.{slots_of, slot, used, doubtful, place}
use Rattle.contacts.specs.Form.{in_form}
use Rattle.contacts.specs.Near.{far, shown, nearest_slots, nearest_of}

-- l is the list of the twenty slots of the table t, of contacts that aren't doubtful, that are nearest to x
pub record AreNearest (t x l : List ℕ) : Type 0 where
  -- contacts of the table that aren't doubtful
  pub held : (i : ℕ) → i < length l → (get_or l i 0 < slots_of t) × (shown (slot t (get_or l i 0)) ≡ true)
  -- none twice
  pub once : (i j : ℕ) → i < length l → j < length l → get_or l i 0 ≡ get_or l j 0 → i ≡ j
  -- nearest first
  pub order : (i j : ℕ) → i ≤ j → j < length l → far t x (get_or l i 0) ≤ far t x (get_or l j 0)
  -- none nearer left out
  pub nearer : (k : ℕ) → k < slots_of t → shown (slot t k) ≡ true → ((i : ℕ) → i < length l → get_or l i 0 ≡ k → ⊥)
      → (i : ℕ) → i < length l → far t x (get_or l i 0) ≤ far t x k
  -- twenty, or all
  pub size : length l ≡ min most_near (count (slots_of t) (λ i. shown (slot t i)))

-- slot i is among those that the table t gives as nearest to x
abbrev pub Gives : List ℕ → List ℕ → ℕ → Type 0
Gives t x i = (k : ℕ) × (k < length (nearest_slots t x)) × (get_or (nearest_slots t x) k 0 ≡ i)

-- and is the first of them
abbrev pub GivesFirst : List ℕ → List ℕ → ℕ → Type 0
GivesFirst t x i = (0 < length (nearest_slots t x)) × (get_or (nearest_slots t x) 0 0 ≡ i)

pub record Claims : Type 0 where
  -- of any table and any place, the list is that of the twenty nearest; in a table in form no two are equally far
  pub nearest : (t x : List ℕ) → length x ≡ 32 → AreNearest t x (nearest_slots t x)
  pub strictly : (t o x : List ℕ) → length x ≡ 32 → Bytes t → in_form t o ≡ true → (i j : ℕ) → i < j → j < length (nearest_slots t x)
      → far t x (get_or (nearest_slots t x) i 0) < far t x (get_or (nearest_slots t x) j 0)
  -- a doubtful contact is never given; one that isn't is the first for its own place, whatever else the table holds
  pub passes_over : (t x : List ℕ) (i : ℕ) → doubtful (slot t i) ≡ true → Gives t x i → ⊥
  pub own : (t o : List ℕ) (i : ℕ) → Bytes t → in_form t o ≡ true → i < slots_of t → used (slot t i) ≡ true → doubtful (slot t i) ≡ false → GivesFirst t (place (slot t i)) i
  -- it is what the answer says: the first of its twenty numbers, as many as it counts
  pub told : (t x : List ℕ) → take (nearest_of t x).n (nearest_of t x).at ≡ nearest_slots t x
