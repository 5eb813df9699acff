-- Who we are, and a connection: RULES, Stream, and RULES, Answers. Both are values that a host holds and hands in, so any numbers may come.
use Rattle.std.specs.Prelude.{ℕ, Bool, cond, not, ◌&&◌, ◌||◌, List, [], ◌∷◌, replicate, leb}
use Rattle.octets.specs.Octets.{same}
use Rattle.octets.specs.Search.{all_of}
use Rattle.limits.specs.Limits.{most_id}
use Rattle.refusal.specs.declared.Refusal.TheVariants.{OutOfForm, BadPeer}
use Rattle.place.specs.Place.{place_of}
use Rattle.peer.specs.declared.Peer.{Peer}
use Rattle.peer.specs.Peers.{bad_peer, id_fits, peer_of}
use Rattle.stream.specs.declared.Framing.{Framing}
use Rattle.stream.specs.declared.Framing.TheVariants.{Shut}
use Rattle.stream.specs.Stream.{fresh, in_form, is_shut, end_of}
use Rattle.connections.specs.declared.Conn.{Conn}
use Rattle.connections.specs.declared.Started.{Started}
use Rattle.connections.specs.declared.Opened.{Opened}
use Rattle.connections.specs.declared.Ended.{Ended}
use Rattle.std.specs.Prelude.{Ok, Err}

-- ---- the box: our id, our place and our first four usable addresses
-- "12 if our id isn't 1 to 64 bytes": also where a box is handed in whose numbers no start gave. It is asked of a connection's peer too
unfoldable pub own_fits : Peer → Bool
own_fits me = leb 1 me.size && leb me.size most_id

-- nobody, with no id and no addresses
unfoldable pub nobody : Peer
nobody = peer_of [] (replicate 32 0) []

unfoldable pub start_of : List ℕ → List ℕ → Started
start_of id addresses =
    cond (id_fits id) (record { me = peer_of id (place_of id) addresses; told = (Ok tt) }) (record { me = nobody; told = Err BadPeer })

-- ---- a connection
abbrev pub with_framing : Conn → Framing → Conn
with_framing c f = record { peer = c.peer; framing = f; server = c.server; asking = c.asking }

-- "A connection opens with the peer's id, mode and addresses (12 may apply; if so it starts shut), a side"
unfoldable pub open_of : Peer → List ℕ → Bool → Bool → List ℕ → Opened
open_of me id server asking addresses =
    cond (not (own_fits me) || bad_peer me.place id)
    (record { conn = record { peer = nobody; framing = Shut; server = server; asking = asking }; told = Err BadPeer })
    (record { conn = record { peer = peer_of id (place_of id) addresses; framing = fresh; server = server; asking = asking }; told = (Ok tt) })

-- "open connections a peer 12 allows, 0 to 2 prefix bytes with set top bits, and any begun body short of its length": form is asked of open ones.
-- 12 goes by id and place, so addresses don't count
unfoldable pub conn_form : Peer → Conn → Bool
conn_form me c = is_shut c.framing || all_of (own_fits c.peer ∷ not (same c.peer.place me.place) ∷ in_form c.framing ∷ [])

-- "An end shuts the connection": 0, 2, 19
unfoldable pub end_conn : Peer → Conn → Ended
end_conn me c =
    cond (conn_form me c) (record { conn = with_framing c (end_of c.framing).framing; answer = (end_of c.framing).answer })
    (record { conn = c; answer = Err OutOfForm })
