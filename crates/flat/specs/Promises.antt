-- What is written reads back, reading looks no further than what is written, and what says no framing is out of form; proofs/Back.antt proves each.
use Rattle.std.specs.Prelude.{ℕ, ◌≤◌, ◌<◌, ◌≡◌, true, false, List, ◌++◌, length, get_or, take}
use Rattle.std.proofs.lemmas.List.Edits.{sets}
use Rattle.limits.specs.Limits.{most_id, most_addresses, addresses_size, place_size}
use Rattle.peer.specs.declared.Peer.{Peer}
use Rattle.stream.specs.declared.Framing.{Framing}
use Rattle.stream.specs.Stream.{in_form}
use Rattle.connections.specs.declared.Conn.{Conn}
use Rattle.connections.specs.Box as box
use Rattle.flat.specs.Flat.{peer_size, conn_size, peer_in, framing_in, conn_in, peer_bytes, framing_bytes, conn_bytes, with_framing}

-- a peer's arrays have their lengths, as every value of the type does
pub record Whole (p : Peer) : Type 0 where
  pub addrs : length p.addrs ≡ addresses_size
  pub id : length p.id ≡ most_id
  pub place : length p.place ≡ place_size
  pub lens : length p.lens ≡ most_addresses

-- ---- how many bytes are written
pub record Sizes : Type 0 where
  pub peer : (p : Peer) → Whole p → length (peer_bytes p) ≡ peer_size
  pub framing : (f : Framing) → length (framing_bytes f) ≡ 8
  pub conn : (c : Conn) → Whole c.peer → length (conn_bytes c) ≡ conn_size

-- ---- what is written reads back, whatever follows it
pub record ReadsBack : Type 0 where
  pub peer : (p : Peer) (rest : List ℕ) → Whole p → peer_in (peer_bytes p ++ rest) ≡ p
  pub framing : (f : Framing) (rest : List ℕ) → in_form f ≡ true → framing_in (framing_bytes f ++ rest) ≡ f
  pub conn : (c : Conn) (rest : List ℕ) → Whole c.peer → in_form c.framing ≡ true → conn_in (conn_bytes c ++ rest) ≡ c

-- ---- and so it does from a lent buffer that is long enough; a framing that is written changes nothing else
pub record ReadsBackLent : Type 0 where
  pub peer : (s : List ℕ) (p : Peer) → peer_size ≤ length s → Whole p → peer_in (sets s 0 (peer_bytes p)) ≡ p
  pub conn : (s : List ℕ) (c : Conn) → conn_size ≤ length s → Whole c.peer → in_form c.framing ≡ true → conn_in (sets s 0 (conn_bytes c)) ≡ c
  pub framing : (s : List ℕ) (f : Framing) → conn_size ≤ length s → in_form f ≡ true → conn_in (with_framing s f) ≡ box.with_framing (conn_in s) f

-- ---- what stands past the end of either isn't looked at
pub record LooksNoFurther : Type 0 where
  pub peer : (s : List ℕ) → peer_in (take peer_size s) ≡ peer_in s
  pub conn : (s : List ℕ) → conn_in (take conn_size s) ≡ conn_in s

-- ---- bytes that say no framing read as one out of form, which receive and end refuse
pub record NoFraming : Type 0 where
  pub kind : (s : List ℕ) → 2 < get_or s 0 0 → in_form (framing_in s) ≡ false
  pub held : (s : List ℕ) → get_or s 0 0 ≡ 1 → 2 < get_or s 1 0 → in_form (framing_in s) ≡ false
