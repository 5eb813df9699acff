-- What the box's calls promise, as statements; proofs/Refusals.antt, Doing.antt, Giving.antt and Keeping.antt prove each.
use Rattle.std.specs.Prelude.{ℕ, ◌<◌, ◌≡◌, ◌⊎◌, Bool, true, false, cond, List, length}
use Rattle.octets.specs.Octets.{Bytes}
use Rattle.limits.specs.Limits.{most_id, most_addresses, addresses_size, place_size}
use Rattle.refusal.specs.declared.Refusal.{Refusal}
use Rattle.refusal.specs.declared.Refusal.TheVariants as no
use Rattle.place.specs.Place.{place_of}
use Rattle.peer.specs.declared.Peer.{Peer}
use Rattle.peer.specs.Peers.{id_fits, bad_peer, peer_of, tidied}
use Rattle.contacts.specs.Form.{in_form as contacts_form}
use Rattle.records.specs.Store.{in_form as records_form}
use Rattle.sightings.specs.Sightings.{sighting_of, seen_table}
use Rattle.contact_calls.specs.Calls.{seen_number, settle_number, remove_number, doubt_number}
use Rattle.message.specs.View.{reading_of}
use Rattle.message.specs.declared.Fields.{Fields}
use Rattle.replies.specs.Lent.{Lent, with_contacts}
use Rattle.answer.specs.Answers.{deal_of}
use Rattle.stream.specs.declared.Framing.TheVariants as framing
use Rattle.stream.specs.Stream.{fresh, is_shut}
use Rattle.connections.specs.declared.Conn.{Conn}
use Rattle.node.specs.declared.Answer.TheVariants.{Reply, Heard}
use Rattle.connections.specs.Box.{own_fits, nobody, start_of, with_framing, open_of, conn_form, end_conn}
use Rattle.node.specs.Node.{Link, untouched, dealing_of, Out, gate_of, receive_of}
use Rattle.host_calls.specs.Hosts.{seen_of, seen_after, settle_of, settle_after, remove_of, remove_after, doubt_of, doubt_after, nearest_to}
use Rattle.std.specs.Prelude.{Ok, Err, Some, None}

-- ---- 1. Refused calls change nothing
-- contacts, records and reply buffer are as they were, and nobody was seen
pub record Unchanged (l : Lent) (o : Out) : Type 0 where
  pub left : o.left ≡ l
  pub sight : o.got.sight ≡ None

-- nothing was taken: "0 to 2 consume and change nothing", and so does 12
pub record NotTaken (link : Link) (o : Out) : Type 0 where
  pub taken : o.got.taken ≡ 0
  pub conn : o.got.conn ≡ link.conn
  pub buffer : o.buffer ≡ link.buffer

-- 0, 1, 2 or 12
abbrev pub Early : Refusal → Type 0
Early r = (r ≡ no.OutOfForm) ⊎ ((r ≡ no.SmallBuffer) ⊎ ((r ≡ no.Shut) ⊎ (r ≡ no.BadPeer)))

-- a receive that is refused: by the gate, or it shuts the connection
pub record Refuses (me : Peer) (link : Link) (bs : List ℕ) (l : Lent) (r : Refusal) : Type 0 where
  pub unchanged : Unchanged l (receive_of me link bs l)
  pub closed : (s : Refusal) → gate_of me link l ≡ Err s → (s ≡ r) × Early r × NotTaken link (receive_of me link bs l)
  pub shuts : gate_of me link l ≡ Ok tt → (receive_of me link bs l).got.conn ≡ with_framing link.conn framing.Shut

abbrev pub ReceiveRefused : Type 0
ReceiveRefused = (me : Peer) (link : Link) (bs : List ℕ) (l : Lent) (r : Refusal) → (receive_of me link bs l).got.answer ≡ Err r → Refuses me link bs l r

-- the host's calls: a number under 64 leaves the table, 13 too, which names a head to probe
pub record CallsRefused : Type 0 where
  pub sees : (me : Peer) (t id : List ℕ) (client : Bool) (addresses : List ℕ) → seen_number (seen_of me t id client addresses) < 64 → seen_after me t id client addresses ≡ t
  pub settles : (me : Peer) (t head id : List ℕ) (client : Bool) (addresses : List ℕ) (answered : Bool) → settle_number (settle_of me t head id client addresses answered) < 64
      → settle_after me t head id client addresses answered ≡ t
  pub removes : (me : Peer) (t id : List ℕ) → remove_number (remove_of me t id) < 64 → remove_after me t id ≡ t
  pub doubts : (me : Peer) (t id : List ℕ) → doubt_number (doubt_of me t id) < 64 → doubt_after me t id ≡ t

-- calls that only hand back values: a refused start gives nobody, a refused open a shut connection to nobody, an end with 0 the connection as it
-- was, and a refused search no contacts
pub record ValuesRefused : Type 0 where
  pub starts : (id addresses : List ℕ) (r : Refusal) → (start_of id addresses).told ≡ Err r → (start_of id addresses).me ≡ nobody
  pub opens : (me : Peer) (id : List ℕ) (server asking : Bool) (addresses : List ℕ) (r : Refusal) → (open_of me id server asking addresses).told ≡ Err r
      → ((open_of me id server asking addresses).conn.framing ≡ framing.Shut) × ((open_of me id server asking addresses).conn.peer ≡ nobody)
  pub ending : (me : Peer) (c : Conn) → conn_form me c ≡ false → ((end_conn me c).conn ≡ c) × ((end_conn me c).answer ≡ Err no.OutOfForm)
  pub nearby : (me : Peer) (t key : List ℕ) (r : Refusal) → (nearest_to me t key).told ≡ Err r → (nearest_to me t key).closest.n ≡ 0

-- ---- 2. What a whole message does, in four cases that leave none out
pub record MessageDone : Type 0 where
  -- on the answering side: a request that is refused does nothing; one that is answered gets that reply, "then a server-mode sender is seen", with its
  -- usable addresses
  pub refuses : (me : Peer) (c : Conn) (body : List ℕ) (l : Lent) (r : Refusal) → c.asking ≡ false → (deal_of me c.peer body l).told ≡ Err r
      → dealing_of me c body l ≡ untouched (Err r) l
  pub replies : (me : Peer) (c : Conn) (body : List ℕ) (l : Lent) (n : ℕ) → c.asking ≡ false → (deal_of me c.peer body l).told ≡ Ok n
      → dealing_of me c body l
      ≡ record {
        answer = Ok (Reply n);
        sight = cond c.server (Some (sighting_of l.contacts me.place (tidied c.peer))) None;
        left = with_contacts (deal_of me c.peer body l).left (cond c.server (seen_table l.contacts me.place (tidied c.peer)) l.contacts);
      }
  -- a sender as an open gives it is seen as it is
  pub opened : (id place addresses : List ℕ) → tidied (peer_of id place addresses) ≡ peer_of id place addresses
  -- "On the asking side it goes to the host": with the view that the reader gives, "no reply, no sighting"; or it is refused as the reader refuses it
  pub declines : (me : Peer) (c : Conn) (body : List ℕ) (l : Lent) (r : Refusal) → c.asking ≡ true → reading_of body ≡ Err r
      → dealing_of me c body l ≡ untouched (Err r) l
  pub hears : (me : Peer) (c : Conn) (body : List ℕ) (l : Lent) (f : Fields) → c.asking ≡ true → reading_of body ≡ Ok f
      → dealing_of me c body l ≡ untouched (Ok (Heard (length body) f)) l

-- ---- 3. What a start, an open and an end give, in cases that leave none out
pub record BoxCalls : Type 0 where
  -- "12 if our id isn't 1 to 64 bytes"; else the box has that id, its hash as its place, and the usable addresses
  pub starts : (id addresses : List ℕ) → id_fits id ≡ true → start_of id addresses ≡ record { me = peer_of id (place_of id) addresses; told = (Ok tt) }
  pub unstarted : (id addresses : List ℕ) → id_fits id ≡ false → start_of id addresses ≡ record { me = nobody; told = Err no.BadPeer }
  -- "A connection opens with the peer's id, mode and addresses (12 may apply; if so it starts shut), a side"
  pub opens : (me : Peer) (id : List ℕ) (server asking : Bool) (addresses : List ℕ) → own_fits me ≡ true → bad_peer me.place id ≡ false
      → open_of me id server asking addresses
      ≡ record { conn = record { peer = peer_of id (place_of id) addresses; framing = fresh; server = server; asking = asking }; told = (Ok tt) }
  pub unopened : (me : Peer) (id : List ℕ) (server asking : Bool) (addresses : List ℕ) → bad_peer me.place id ≡ true
      → open_of me id server asking addresses
      ≡ record { conn = record { peer = nobody; framing = framing.Shut; server = server; asking = asking }; told = Err no.BadPeer }
  -- "An end shuts the connection": clean between messages, else 19; 2 where it was shut
  pub shuts : (me : Peer) (c : Conn) → conn_form me c ≡ true → (end_conn me c).conn ≡ with_framing c framing.Shut
  pub clean : (me : Peer) (c : Conn) → conn_form me c ≡ true → c.framing ≡ fresh → (end_conn me c).answer ≡ Ok tt
  pub inside : (me : Peer) (c : Conn) → conn_form me c ≡ true → is_shut c.framing ≡ false → (c.framing ≡ fresh → ⊥) → (end_conn me c).answer ≡ Err no.EndedInside
  pub again : (me : Peer) (c : Conn) → is_shut c.framing ≡ true → (end_conn me c).answer ≡ Err no.Shut

-- ---- 4. Form is kept
-- a peer whose arrays have the lengths that they are declared with, and whose place is bytes
pub record Made (p : Peer) : Type 0 where
  pub lens_long : length p.lens ≡ most_addresses
  pub place_long : length p.place ≡ place_size
  pub place_bytes : Bytes p.place
  pub id_long : length p.id ≡ most_id
  pub addrs_long : length p.addrs ≡ addresses_size

pub record FormKept : Type 0 where
  pub opens : (me : Peer) (id : List ℕ) (server asking : Bool) (addresses : List ℕ) → conn_form me (open_of me id server asking addresses).conn ≡ true
  pub closes : (me : Peer) (c : Conn) → conn_form me c ≡ true → conn_form me (end_conn me c).conn ≡ true
  pub receives : (me : Peer) (link : Link) (bs : List ℕ) (l : Lent) → conn_form me link.conn ≡ true → conn_form me (receive_of me link bs l).got.conn ≡ true
  pub contacts : (me : Peer) (link : Link) (bs : List ℕ) (l : Lent) → Made me → Made link.conn.peer → conn_form me link.conn ≡ true
      → is_shut link.conn.framing ≡ false → contacts_form l.contacts me.place ≡ true → contacts_form (receive_of me link bs l).left.contacts me.place ≡ true
  pub records : (me : Peer) (link : Link) (bs : List ℕ) (l : Lent) → records_form l.records ≡ true → records_form (receive_of me link bs l).left.records ≡ true
