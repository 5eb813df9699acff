-- How many messages there are in a stream: what a host counts that hands all the bytes over in one piece. However the loop cuts them, it counts
-- the same (cutting/specs/Claims.antt, `Cut`), and these are the messages of the plain reading (`Reading`).
use Rattle.std.specs.Prelude.{ℕ, ◌+◌, ◌≡◌, List}
use Rattle.cutting.specs.Frames.{Event, message, refused}
use Rattle.cutting.specs.World.{Did, Line, Shared, handed}
use Rattle.cutting.specs.Claims.{alone, opened}
use Rattle.std.specs.Prelude.{Ok, Err, Some, None, Result, Option}
use Rattle.refusal.specs.declared.Refusal.{Refusal}

abbrev pub tally : ℕ → Event → ℕ
tally n (message at body) = n + 1
tally n (refused at r) = n

-- the receive buffer m and the bytes
abbrev pub host_of : List ℕ → List ℕ → Did (Line (Unit {0})) (Shared ℕ ⊥)
host_of m bytes = handed (alone tally) 0 (opened tt m 0) bytes

-- r is the count, and m' the receive buffer afterwards
pub record Counts (m bytes : List ℕ) (r : ℕ) (m' : List ℕ) : Type 0 where
  pub count : r ≡ (host_of m bytes).shared.state
  pub buffer : m' ≡ (host_of m bytes).line.buffer

abbrev pub messages_in : Result (Option ℕ) Refusal → ℕ
messages_in (Ok (Some n)) = 1
messages_in (Err r) = 0
messages_in (Ok None) = 0
