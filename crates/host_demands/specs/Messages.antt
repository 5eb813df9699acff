-- Demand 2 of messages, as C and Rust programs get them: what `starterbell_read`, `starterbell_peer`, `starterbell_peer_address` and `starterbell_write`
-- return and leave, by the definitions that their contracts name. Proved in proofs/Reading.antt.
use Rattle.std.specs.Prelude.{ℕ, ◌+◌, ◌*◌, ◌≤◌, ◌<◌, ◌≡◌, true, false, List, [], ◌∷◌, ◌++◌, length, get_or, take, drop}
use Rattle.octets.specs.Octets.{part}
use Rattle.limits.specs.Limits.{most_body, least_reply, most_kind}
use Rattle.wire.specs.declared.Span.{Span}
use Rattle.message.specs.Message.{Peer, Record, Message, decode, encode}
use Rattle.message.specs.View.{reading_of}
use Rattle.message.specs.Claims.{Cuttable}
use Rattle.message.specs.declared.Fields.{Fields}
use Rattle.peer_walk.specs.PeerWalk.{most_places}
use Rattle.pieces.specs.Writable.{writable}
use Rattle.writer.specs.Writer.{answer_of, out_after}
use Rattle.host_numbers.specs.Numbers.{view_numbers}
use Rattle.host_answers.specs.Answers.{read_number, read_numbers, entry_from, address_from, part_number, peer_numbers, address_numbers, write_number, write_numbers}
use Rattle.demands.specs.Demands.{Writes}
use Rattle.std.specs.Prelude.{Ok, Some, None, Option}

-- ---- what numbers in out show
-- from start up to end there are these bytes of the body, and both lie in it
pub record IsPart (body : List ℕ) (start end : ℕ) (bytes : List ℕ) : Type 0 where
  pub ordered : start ≤ end
  pub inside : end ≤ length body
  pub says : part body start end ≡ bytes

-- a record: 1, and where its key and its value are. None: 0
abbrev pub RecordShown : List ℕ → List ℕ → Option Record → Type 0
RecordShown body o None = get_or o 3 0 ≡ 0
RecordShown body o (Some r) = (get_or o 3 0 ≡ 1) × IsPart body (get_or o 4 0) (get_or o 5 0) r.key × IsPart body (get_or o 6 0) (get_or o 7 0) r.value

-- eight numbers: a message's type, where its key is, and its record
pub record Shows (body : List ℕ) (m : Message) (o : List ℕ) : Type 0 where
  pub kind : get_or o 0 0 ≡ m.kind
  pub key : IsPart body (get_or o 1 0) (get_or o 2 0) m.key
  pub held : RecordShown body o m.held

-- ---- starterbell_read: "Reading yields the fields the bytes carry"
-- it returns 64, and the first eight numbers in out show the message; those after them stay
pub record ReadAs (body : List ℕ) (m : Message) : Type 0 where
  pub number : read_number (reading_of body) ≡ 64
  pub shows : (out : List ℕ) → 8 ≤ length out → Shows body m (read_numbers out (reading_of body))
  pub rest : (out : List ℕ) → drop 8 (read_numbers out (reading_of body)) ≡ drop 8 out

-- one of the first four is so of every body, and no two: a body of at most 16,384 bytes that decodes to a message of a type up to 5 is read as that message,
-- and any other is refused with 4, 5 or 6
pub record ReadTold (body : List ℕ) : Type 0 where
  pub long : most_body < length body → read_number (reading_of body) ≡ 4
  pub malformed : length body ≤ most_body → decode body ≡ None → read_number (reading_of body) ≡ 5
  pub unknown : length body ≤ most_body → (m : Message) → decode body ≡ Some m → most_kind < m.kind → read_number (reading_of body) ≡ 6
  pub whole : length body ≤ most_body → (m : Message) → decode body ≡ Some m → m.kind ≤ most_kind → ReadAs body m
  -- refused, it leaves out as it was
  pub refused : read_number (reading_of body) < 64 → (out : List ℕ) → read_numbers out (reading_of body) ≡ out
  -- and the eight numbers that a receive gives with 66 (`AsExported`) show the message that it gives
  pub heard : (f : Fields) → reading_of body ≡ Ok f → (m : Message) × (decode body ≡ Some m) × Shows body m (view_numbers f)

-- ---- starterbell_peer_address, of the entry from start up to end
-- a call that finds f: 64, and out begins with where these bytes of the body are; its other numbers stay
pub record AddressGiven (body : List ℕ) (f : Option Span) (p : Span) (bytes : List ℕ) : Type 0 where
  pub number : part_number f ≡ 64
  pub numbers : (out : List ℕ) → 2 ≤ length out → address_numbers out f ≡ p.at ∷ p.end ∷ drop 2 out
  pub says : IsPart body p.at p.end bytes

-- the calls from a position on, each from where the address before it ends, give these addresses, and then 65
unfoldable pub Addresses : List ℕ → ℕ → ℕ → ℕ → List (List ℕ) → Type 0
Addresses body start end from [] =
    (part_number (address_from body start end from) ≡ 65) × ((out : List ℕ) → address_numbers out (address_from body start end from) ≡ out)
Addresses body start end from (a ∷ l) = (p : Span) × AddressGiven body (address_from body start end from) p a × Addresses body start end p.end l

-- ---- starterbell_peer
-- a call that finds f: 64, and out begins with 22 numbers, or as many of them as it has room for: where the entry is, where its id is, its connection, how many
-- addresses it has, and sixteen places. The calls on its addresses, from 0 or its start, give them all
pub record PeerGiven (body : List ℕ) (f : Option Span) (p : Span) (who : Peer) : Type 0 where
  pub number : part_number f ≡ 64
  pub id : Span
  pub places : List ℕ
  pub numbers : (out : List ℕ) → peer_numbers out body f ≡ take (length out) (p.at ∷ p.end ∷ id.at ∷ id.end ∷ who.connection ∷ length who.addrs ∷ places) ++ drop 22 out
  pub inside : Cuttable (length body) p
  pub says : IsPart body id.at id.end who.id
  -- the places show the first eight addresses: where each starts and where it ends, and zeros after the last
  pub sixteen : length places ≡ 16
  pub shows : (k : ℕ) → k < most_places → k < length who.addrs → IsPart body (get_or places (2 * k) 0) (get_or places (2 * k + 1) 0) (get_or who.addrs k [])
  pub zeros : (k : ℕ) → 2 * length who.addrs ≤ k → get_or places k 0 ≡ 0
  pub addresses : (from : ℕ) → from ≤ p.at → Addresses body p.at p.end from who.addrs
  -- and where there are eight or more, the calls from where the eighth ends give the others
  pub others : most_places ≤ length who.addrs → Addresses body p.at p.end (get_or places 15 0) (drop most_places who.addrs)

-- the calls on a list from a position on, each from where the entry before it ends, give these peers, and then 65
unfoldable pub Peers : List ℕ → ℕ → ℕ → List Peer → Type 0
Peers body list from [] = (part_number (entry_from body list from) ≡ 65) × ((out : List ℕ) → peer_numbers out body (entry_from body list from) ≡ out)
Peers body list from (who ∷ l) = (p : Span) × PeerGiven body (entry_from body list from) p who × Peers body list p.end l

-- of a body that decodes to m: all its closer peers for list 0, all its providers for any other
pub record PeersTold (body : List ℕ) (m : Message) : Type 0 where
  pub closer : Peers body 0 0 m.closer
  pub providers : (list : ℕ) → 0 < list → Peers body list 0 m.providers

-- ---- starterbell_write, with the buffer y, of the message m that `message_with` (crate `writer`) makes of its arguments: "what is written reads back as the same
-- fields"
-- it returns 64. As many bytes of the buffer as the first number in out says are the message with its prefix, and those after them stay. Without the
-- prefix, starterbell_read gives the message back
pub record WrittenAs (y : List ℕ) (m : Message) : Type 0 where
  pub number : write_number (answer_of y m) ≡ 64
  pub stands : (out : List ℕ) → 1 ≤ length out → Writes m y (get_or (write_numbers out (answer_of y m)) 0 0)
  pub reads : ReadAs (encode m) m

-- one of the first three is so of every buffer and message, and no two
pub record WriteTold (y : List ℕ) (m : Message) : Type 0 where
  pub small : length y < least_reply → write_number (answer_of y m) ≡ 1
  pub over : least_reply ≤ length y → writable m ≡ false → write_number (answer_of y m) ≡ 21
  pub fine : least_reply ≤ length y → writable m ≡ true → WrittenAs y m
  -- refused, it leaves the buffer and out as they were
  pub refused : write_number (answer_of y m) < 64 → (out_after y m ≡ y) × ((out : List ℕ) → write_numbers out (answer_of y m) ≡ out)

pub record MessagesCross : Type 0 where
  pub reads : (body : List ℕ) → ReadTold body
  pub peers : (body : List ℕ) (m : Message) → decode body ≡ Some m → PeersTold body m
  pub writes : (y : List ℕ) (m : Message) → WriteTold y m
