-- The box and a connection as plain bytes that the host lends. The box is a peer, and a peer has the bytes of a contact's slot (crates/contacts, specs/Table), of rank 0 and not doubtful.
-- A connection has 640:
--
--   bytes       what stands there
--   0 to 615    its peer
--   616         1 where the peer is a server, else 0
--   617         1 where we are the side that asks, else 0
--   618 to 625  its framing:
--     618         0 shut, 1 within a prefix, 2 within a body
--     619         how many bytes of a prefix are held, 0 to 2
--     620, 621    those bytes, 0 where there is none
--     622, 623    the length of a begun body, the lowest byte first
--     624, 625    how many of its bytes are there, the lowest byte first
--   626 to 639  0
use Rattle.std.specs.Prelude.{ℕ, suc, ◌+◌, ◌-◌, ◌*◌, ◌/◌, ◌%◌, Bool, cond, not, List, [], ◌∷◌, ◌++◌, get_or, drop, replicate, eqb}
use Rattle.std.proofs.lemmas.List.Edits.{sets}
use Rattle.limits.specs.Limits.{most_id, most_addresses, addresses_size, place_size}
use Rattle.contact_table.specs.Table.{id_size_at, count_at, sizes_at, place_at, id_at, addresses_at, slot_size}
use Rattle.peer.specs.Addresses.{padded}
use Rattle.peer.specs.declared.Peer.{Peer}
use Rattle.peer.specs.Peers.{contact_bytes}
use Rattle.stream.specs.declared.Held.{Held}
use Rattle.stream.specs.declared.Held.TheVariants.{Nothing, One, Two}
use Rattle.stream.specs.declared.Framing.{Framing}
use Rattle.stream.specs.declared.Framing.TheVariants.{Shut, Prefix, Body}
use Rattle.connections.specs.declared.Conn.{Conn}

-- ---- where the parts of a connection stand; those of a peer stand where a slot has them
abbrev pub peer_size : ℕ
peer_size = slot_size

abbrev pub server_at : ℕ
server_at = peer_size

abbrev pub asking_at : ℕ
asking_at = server_at + 1

abbrev pub framing_at : ℕ
framing_at = asking_at + 1

-- zeros from here on
abbrev pub rest_at : ℕ
rest_at = framing_at + 8

abbrev pub conn_size : ℕ
conn_size = rest_at + 14

-- ---- reading. What lies past the end of a byte string reads as zeros
-- n bytes from a on
unfoldable pub field : ℕ → ℕ → List ℕ → List ℕ
field a n s = padded n (drop a s)

unfoldable pub peer_in : List ℕ → Peer
peer_in s = record {
  addrs = field addresses_at addresses_size s;
  id = field id_at most_id s;
  place = field place_at place_size s;
  lens = field sizes_at most_addresses s;
  size = get_or s id_size_at 0;
  count = get_or s count_at 0;
}

-- out of form: a body that is begun is short of its length
abbrev pub unread : Framing
unread = Body 0 0

-- within a prefix of which so many bytes are held, at most two: a and b
unfoldable pub prefix_of : ℕ → ℕ → ℕ → Framing
prefix_of held a b =
    cond (eqb held 0) (Prefix Nothing)
    (cond (eqb held 1) (Prefix (One a))
    (cond (eqb held 2) (Prefix (Two a b))
    unread))

-- by its kind
unfoldable pub framing_of : ℕ → ℕ → ℕ → ℕ → ℕ → ℕ → Framing
framing_of kind held a b want have =
    cond (eqb kind 0) Shut
    (cond (eqb kind 1) (prefix_of held a b)
    (cond (eqb kind 2) (Body want have)
    unread))

-- two bytes as a number, the lowest first
abbrev pub pair_at : List ℕ → ℕ → ℕ
pair_at s at = get_or s at 0 + get_or s (suc at) 0 * 256

-- the framing in its own eight bytes
unfoldable pub framing_in : List ℕ → Framing
framing_in s = framing_of (get_or s 0 0) (get_or s 1 0) (get_or s 2 0) (get_or s 3 0) (pair_at s 4) (pair_at s 6)

-- any byte but 0 says yes
abbrev pub says_yes : ℕ → Bool
says_yes b = not (eqb b 0)

unfoldable pub conn_in : List ℕ → Conn
conn_in s = record {
  peer = peer_in s;
  framing = framing_in (drop framing_at s);
  server = says_yes (get_or s server_at 0);
  asking = says_yes (get_or s asking_at 0);
}

-- ---- writing
-- a peer's bytes are a contact's with the mark 1
abbrev pub peer_bytes : Peer → List ℕ
peer_bytes p = contact_bytes 1 p

-- the eight bytes of a framing. Its two lengths are below 65,536 in form; of any other the lowest two bytes are written
abbrev pub eight_bytes : ℕ → ℕ → ℕ → ℕ → ℕ → ℕ → List ℕ
eight_bytes kind held a b want have =
    kind ∷ held ∷ a ∷ b ∷ want % 256 ∷ want / 256 % 256 ∷ have % 256 ∷ have / 256 % 256 ∷ []

abbrev pub prefix_bytes : Held → List ℕ
prefix_bytes Nothing = eight_bytes 1 0 0 0 0 0
prefix_bytes (One a) = eight_bytes 1 1 a 0 0 0
prefix_bytes (Two a b) = eight_bytes 1 2 a b 0 0

abbrev pub framing_bytes : Framing → List ℕ
framing_bytes Shut = eight_bytes 0 0 0 0 0 0
framing_bytes (Prefix h) = prefix_bytes h
framing_bytes (Body want have) = eight_bytes 2 0 0 0 want have

abbrev pub bit : Bool → ℕ
bit b = cond b 1 0

unfoldable pub conn_bytes : Conn → List ℕ
conn_bytes c = peer_bytes c.peer ++ ((bit c.server ∷ bit c.asking ∷ []) ++ (framing_bytes c.framing ++ replicate (conn_size - rest_at) 0))

-- the bytes of a connection with another framing
abbrev pub with_framing : List ℕ → Framing → List ℕ
with_framing s f = sets s framing_at (framing_bytes f)
