-- What the contracts of private functions cite besides the definition of SHA-256.
use Rattle.std.specs.Prelude.{◌≡◌, ℕ, ◌+◌, ◌/◌, ◌%◌, ◌<◌, ◌≤◌, List, length, slice_index}
use Rattle.sha256.specs.declared.State.{State}
use Rattle.sha256.specs.Sha256.{round_constants, schedule, turns}

-- t turns on the block b from the hash value s are done: the working variables are v, and w holds the next sixteen words of the schedule,
-- as far as it goes, each at its place modulo 16
pub record Done (b : List ℕ) (s : State) (t : ℕ) (w : List ℕ) (v : State) : Type 0 where
  pub size : length w ≡ 16
  pub words : (u : ℕ) → t ≤ u → u < t + 16 → u < 64 → slice_index w (u % 16) ≡ slice_index (schedule 64 b) u
  pub state : v ≡ turns t (schedule 64 b) s

-- t starts one of the first three runs of sixteen rounds, and k is the table of their constants
pub record Sixteen (t : ℕ) (k : List ℕ) : Type 0 where
  pub room : t + 16 ≤ 48
  pub start : t % 16 ≡ 0
  pub table : k ≡ round_constants

-- how many blocks hold the last n bytes of a message, fewer than 64, and the padding
abbrev pub last_blocks : ℕ → ℕ
last_blocks n = (n + 72) / 64
