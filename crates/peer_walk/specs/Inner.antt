-- What only the proofs need: a peer's fields from a position on.
use Rattle.std.specs.Prelude.{ℕ, List, length}
use Rattle.octets.specs.Search.{last_of}
use Rattle.wire.specs.declared.Span.{Span}
use Rattle.wire.specs.Wire.{fields_at, numbers, spans, nowhere}
use Rattle.message.specs.Message.{connection_of}
use Rattle.peer_walk.specs.PeerWalk.{places_of}
use Rattle.peer_walk.specs.declared.Walked.{Walked}

-- what was read, with the connection as it is told
unfoldable pub found_of : Span → ℕ → ℕ → List ℕ → Walked
found_of id v n places = record { id = id; connection = connection_of v; count = n; places = places }

unfoldable pub walked_from : List ℕ → ℕ → Walked
walked_from s at =
    found_of (last_of nowhere (spans 1 (fields_at s at))) (last_of 0 (numbers 3 (fields_at s at))) (length (spans 2 (fields_at s at)))
    (places_of (spans 2 (fields_at s at)))
