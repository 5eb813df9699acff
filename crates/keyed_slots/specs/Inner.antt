-- What the parts of the test of keys need of each other and promise each other. No reader of `Slots` needs these.
use Rattle.std.specs.Prelude.{ℕ, ◌+◌, ◌-◌, ◌<◌, ◌≤◌, ◌≡◌, Bool, true, false, ◌&&◌, List, ltb, length, get_or}
use Rattle.octets.specs.Octets.{lower}
use Rattle.limits.specs.Limits.{most_records}
use Rattle.keyed_slots.specs.Slots.{slots_of, slot, used, key_of, holds, alone}

-- slot numbers in the order of their keys
-- the key of the q-th slot of an order
abbrev pub key_in : ℕ → List ℕ → List ℕ → ℕ → List ℕ
key_in z t o q = key_of (slot z t (get_or o q 0))

-- each key is lower than those after it
pub record Rising (z : ℕ) (t o : List ℕ) (held : ℕ) : Type 0 where
  pub room : held ≤ length o
  pub slots : (q : ℕ) → q < held → get_or o q 0 < slots_of z t
  pub rising : (p q : ℕ) → p < q → q < held → lower (key_in z t o p) (key_in z t o q) ≡ true

-- the place of a key: all before it are lower, and no other is
pub record Between (z : ℕ) (t o : List ℕ) (held : ℕ) (k : List ℕ) (r : ℕ) : Type 0 where
  pub most : r ≤ held
  pub low : (q : ℕ) → q < r → lower (key_in z t o q) k ≡ true
  pub high : (q : ℕ) → r ≤ q → q < held → lower (key_in z t o q) k ≡ false

unfoldable pub stands_at : ℕ → List ℕ → List ℕ → ℕ → ℕ → List ℕ → Bool
stands_at z t o held p k = ltb p held && holds z t k (get_or o p 0)

-- x is put in at place p, and those after it moved on
pub record Inserted (o o' : List ℕ) (held p x : ℕ) : Type 0 where
  pub size : length o' ≡ length o
  pub before : (q : ℕ) → q < p → get_or o' q 0 ≡ get_or o q 0
  pub at : get_or o' p 0 ≡ x
  pub after : (q : ℕ) → p < q → q ≤ held → get_or o' q 0 ≡ get_or o (q - 1) 0

-- the order of the used slots before slot i
pub record Ordered (z : ℕ) (t o : List ℕ) (held i : ℕ) : Type 0 where
  pub sorted : Rising z t o held
  pub size : length o ≡ most_records
  pub few : held ≤ i
  pub each : (q : ℕ) → q < held → (get_or o q 0 < i) × (used (slot z t (get_or o q 0)) ≡ true)
  pub covers : (j : ℕ) → j < i → used (slot z t j) ≡ true → (q : ℕ) × (q < held) × (get_or o q 0 ≡ j)

-- slot i fits and has its place in the order, or it doesn't fit
pub record Settled (z : ℕ) (t o : List ℕ) (i r : ℕ) : Type 0 where
  pub fit : r ≤ most_records → (alone z t i ≡ true) × Ordered z t o r (i + 1)
  pub unfit : most_records < r → alone z t i ≡ false
