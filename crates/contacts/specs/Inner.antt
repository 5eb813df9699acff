-- What only the proofs of the code need: what a turn of the search for the nearest starts from.
use Rattle.std.specs.Prelude.{ℕ, ◌+◌, ◌*◌, ◌≤◌, ◌≡◌, true, List, length, take}
use Rattle.limits.specs.Limits.{most_near}
use Rattle.contacts.specs.Table.{slot_size, slot}
use Rattle.contacts.specs.Near.{shown, sorted, filled}

-- the twenty nearest of the slots below k
unfoldable pub kept : List ℕ → List ℕ → ℕ → List ℕ
kept t x k = take most_near (sorted t x k)

-- what a turn starts from: slot k is whole and shown, and at holds the n nearest of the slots below it
pub record Held (t x at : List ℕ) (n k : ℕ) : Type 0 where
  pub long : length x ≡ 32
  pub whole : k * slot_size + slot_size ≤ length t
  pub taken : shown (slot t k) ≡ true
  pub count : n ≡ length (kept t x k)
  pub list : at ≡ filled (kept t x k)
