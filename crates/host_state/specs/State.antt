-- The box and a connection after a call: the number that it returns, the bytes that it leaves, and the numbers that go to out.
use Rattle.std.specs.Prelude.{ℕ, Bool, cond, ◌||◌, List, [], ◌∷◌, ◌++◌, leb, eqb}
use Rattle.std.proofs.lemmas.List.Edits.{sets}
use Rattle.refusal.specs.declared.Refusal.{Refusal}
use Rattle.refusal.specs.Refusal.{number_of}
use Rattle.stream.specs.declared.Framing.{Framing}
use Rattle.sightings.specs.declared.Sighting.{Sighting}
use Rattle.sightings.specs.declared.Sighting.TheVariants as sighting
use Rattle.connections.specs.declared.Started.{Started}
use Rattle.connections.specs.declared.Ended.{Ended}
use Rattle.node.specs.declared.Answer as node
use Rattle.node.specs.declared.Answer.TheVariants as answer
use Rattle.node.specs.declared.Received.{Received}
use Rattle.flat.specs.Flat.{peer_bytes, with_framing}
use Rattle.host_numbers.specs.Numbers.{unless_refused, view_numbers}
use Rattle.std.specs.Prelude.{Ok, Err, Some, None, Result, Option, ⊤}

-- ---- start
-- a refused start leaves the box memory as it was
abbrev pub box_after : List ℕ → Started → List ℕ
box_after me s = unless_refused s.told (sets me 0 (peer_bytes s.me)) me

-- ---- the end of a connection's bytes
-- 0, 1, 2 and 12 change nothing: the bytes stay as they are
unfoldable pub changes_nothing : Refusal → Bool
changes_nothing r = leb (number_of r) 2 || eqb (number_of r) 12

abbrev pub refused_framing : List ℕ → Framing → Refusal → List ℕ
refused_framing conn f r = cond (changes_nothing r) conn (with_framing conn f)

abbrev pub ending_code : Result ⊤ Refusal → ℕ
ending_code (Ok tt) = 64
ending_code (Err r) = number_of r

abbrev pub ending_framing : List ℕ → Framing → Result ⊤ Refusal → List ℕ
ending_framing conn f (Ok tt) = with_framing conn f
ending_framing conn f (Err r) = refused_framing conn f r

abbrev pub ended_memory : List ℕ → Ended → List ℕ
ended_memory conn e = ending_framing conn e.conn.framing e.answer

-- ---- receiving
-- 64 more, 65 a reply, 66 a message for a lookup
abbrev pub answer_number : Result node.Answer Refusal → ℕ
answer_number (Ok (answer.Reply n)) = 65
answer_number (Ok (answer.Heard n m)) = 66
answer_number (Err r) = number_of r
answer_number (Ok answer.More) = 64

-- the length of the reply or of the message
abbrev pub answer_length : Result node.Answer Refusal → ℕ
answer_length (Ok (answer.Reply n)) = n
answer_length (Ok (answer.Heard n m)) = n
answer_length (Err r) = 0
answer_length (Ok answer.More) = 0

abbrev pub answer_view : Result node.Answer Refusal → List ℕ
answer_view (Ok (answer.Reply n)) = []
answer_view (Ok (answer.Heard n m)) = view_numbers m
answer_view (Err r) = []
answer_view (Ok answer.More) = []

abbrev pub answer_framing : List ℕ → Framing → Result node.Answer Refusal → List ℕ
answer_framing conn f (Ok (answer.Reply n)) = with_framing conn f
answer_framing conn f (Ok (answer.Heard n m)) = with_framing conn f
answer_framing conn f (Err r) = refused_framing conn f r
answer_framing conn f (Ok answer.More) = with_framing conn f

-- 1 moved, 2 joined, 3 the bucket is full, 4 no slot, for which alone a message's sighting is refused; and the slot, or that of the bucket's head
abbrev pub sighting_number : Result Sighting Refusal → ℕ
sighting_number (Ok (sighting.Moved i)) = 1
sighting_number (Ok (sighting.Joined i)) = 2
sighting_number (Ok (sighting.Probe h)) = 3
sighting_number (Err r) = 4

abbrev pub sighting_slot : Result Sighting Refusal → ℕ
sighting_slot (Ok (sighting.Moved i)) = i
sighting_slot (Ok (sighting.Joined i)) = i
sighting_slot (Ok (sighting.Probe h)) = h
sighting_slot (Err r) = 0

-- 0 for no sighting
abbrev pub sight_number : Option (Result Sighting Refusal) → ℕ
sight_number None = 0
sight_number (Some s) = sighting_number s

abbrev pub sight_slot : Option (Result Sighting Refusal) → ℕ
sight_slot None = 0
sight_slot (Some s) = sighting_slot s

-- bytes taken, length, sighting and slot, and the view of a message for a lookup
abbrev pub received_numbers : List ℕ → Received → List ℕ
received_numbers out g =
    sets out 0 ((g.taken ∷ answer_length g.answer ∷ sight_number g.sight ∷ sight_slot g.sight ∷ []) ++ answer_view g.answer)

abbrev pub received_memory : List ℕ → Received → List ℕ
received_memory conn g = answer_framing conn g.conn.framing g.answer

-- no byte was taken
abbrev pub nothing_taken : List ℕ → List ℕ
nothing_taken out = sets out 0 (0 ∷ 0 ∷ 0 ∷ 0 ∷ [])
