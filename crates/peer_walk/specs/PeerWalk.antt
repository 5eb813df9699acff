-- A peer of a message, told at once: where its id is, its connection, how many addresses it has, and where the first of them are. RULES, Messages: "Peer id=1,
-- addrs=2 (repeated), connection=3 (0 to 3)". What each of these is stands in crates/message, specs/View.
use Rattle.std.specs.Prelude.{ℕ, List, [], ◌∷◌, length, take, replicate}
use Rattle.std.proofs.lemmas.List.Edits.{sets}
use Rattle.wire.specs.declared.Span.{Span}
use Rattle.message.specs.View.{id_at, addresses_at, connection_at}
use Rattle.peer_walk.specs.declared.Walked.{Walked}

-- how many addresses are told at once
abbrev pub most_places : ℕ
most_places = 8

-- where each of some parts starts and ends, one after another
unfoldable pub bounds : List Span → List ℕ
bounds [] = []
bounds (p ∷ l) = p.at ∷ p.end ∷ bounds l

-- of the first eight, in an array of 16, with 0 where there is none
unfoldable pub places_of : List Span → List ℕ
places_of l = sets (replicate 16 0) 0 (bounds (take most_places l))

-- the peer whose bytes are at a span
unfoldable pub walked_of : List ℕ → Span → Walked
walked_of s p =
    record {
      id = id_at s p;
      connection = connection_at s p;
      count = length (addresses_at s p);
      places = places_of (addresses_at s p);
    }

-- the same as twenty numbers, for programs that take no structs
abbrev pub told_at : List ℕ → Span → List ℕ
told_at s p = (id_at s p).at ∷ (id_at s p).end ∷ connection_at s p ∷ length (addresses_at s p) ∷ places_of (addresses_at s p)
