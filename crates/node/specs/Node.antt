-- Receiving: what a call does, for every input: RULES, Stream, RULES, Answers, and RULES, Refusals.
use Rattle.std.specs.Prelude.{ℕ, ◌≡◌, List, cond, not, length, take, ltb}
use Rattle.limits.specs.Limits.{most_body, least_reply}
use Rattle.refusal.specs.declared.Refusal.TheVariants.{OutOfForm, SmallBuffer, Shut, BadPeer}
use Rattle.peer.specs.declared.Peer.{Peer}
use Rattle.peer.specs.Peers.{tidied}
use Rattle.contacts.specs.Form.{in_form as contacts_form}
use Rattle.records.specs.Store.{in_form as records_form}
use Rattle.sightings.specs.Sightings.{sighting_of, seen_table}
use Rattle.message.specs.View.{reading_of}
use Rattle.stream.specs.declared.Framing.TheVariants as framing
use Rattle.stream.specs.Stream.{is_shut, receive_of as framed_of}
use Rattle.replies.specs.Lent.{Lent, with_contacts}
use Rattle.answer.specs.Answers.{deal_of}
use Rattle.connections.specs.Box.{own_fits, conn_form, with_framing}
use Rattle.connections.specs.declared.Conn.{Conn}
use Rattle.node.specs.declared.Answer.{Answer}
use Rattle.node.specs.declared.Answer.TheVariants.{Reply, Heard, More}
use Rattle.node.specs.declared.Received.{Received}
use Rattle.std.specs.Prelude.{Ok, Err, Some, None, Result, Option, ⊤}
use Rattle.message.specs.declared.Fields.{Fields}
use Rattle.refusal.specs.declared.Refusal.{Refusal}
use Rattle.sightings.specs.declared.Sighting.{Sighting}

-- ---- a connection with its receive buffer
pub record Link : Type 0 where
  pub conn : Conn
  pub buffer : List ℕ

abbrev pub linked : Conn → List ℕ → Link
linked c m = record { conn = c; buffer = m }

-- ---- what a message does: the answer, the sighting beside it, and what is left of lent memory
pub record Dealing : Type 0 where
  pub answer : Result Answer Refusal
  pub sight : Option (Result Sighting Refusal)
  pub left : Lent

abbrev pub untouched : Result Answer Refusal → Lent → Dealing
untouched a l = record { answer = a; sight = None; left = l }

-- "then a server-mode sender is seen (a client isn't; no 18), and that outcome stands beside the reply, refusing nothing"
unfoldable pub sight_of : Peer → Conn → List ℕ → Option (Result Sighting Refusal)
sight_of me c t = cond c.server (Some (sighting_of t me.place (tidied c.peer))) None

-- "takes the new addresses if any is usable" (RULES, Places and contacts): a connection may be handed in with others
unfoldable pub contacts_after : Peer → Conn → List ℕ → List ℕ
contacts_after me c t = cond c.server (seen_table t me.place (tidied c.peer)) t

-- "The reply is worked out first"; "A refused request isn't a sighting"
abbrev pub by_answer : Result ℕ Refusal → (after : Lent) → Peer → Conn → (before : Lent) → Dealing
by_answer (Err r) after me c l = untouched (Err r) after
by_answer (Ok n) after me c l =
    record { answer = Ok (Reply n); sight = sight_of me c l.contacts; left = with_contacts after (contacts_after me c l.contacts) }

unfoldable pub served : Peer → Conn → List ℕ → Lent → Dealing
served me c body l = let d = deal_of me c.peer body l in by_answer d.told d.left me c l

-- "On the asking side it goes to the host for its lookup: no reply, no sighting, and only 0 to 6 and 19 apply"
abbrev pub heard_as : ℕ → Result Fields Refusal → Result Answer Refusal
heard_as n (Ok f) = Ok (Heard n f)
heard_as n (Err r) = Err r

unfoldable pub heard : List ℕ → Lent → Dealing
heard body l = untouched (heard_as (length body) (reading_of body)) l

unfoldable pub dealing_of : Peer → Conn → List ℕ → Lent → Dealing
dealing_of me c body l = cond c.asking (heard body l) (served me c body l)

-- ---- 0 to 2 and 12, before a byte is taken
unfoldable pub gate_of : Peer → Link → Lent → Result ⊤ Refusal
gate_of me link l =
    cond (not (contacts_form l.contacts me.place)) (Err OutOfForm)
    (cond (not (records_form l.records)) (Err OutOfForm)
    (cond (not (conn_form me link.conn)) (Err OutOfForm)
    (cond (ltb (length link.buffer) most_body) (Err SmallBuffer)
    (cond (ltb (length l.reply) least_reply) (Err SmallBuffer)
    (cond (is_shut link.conn.framing) (Err Shut)
    (cond (not (own_fits me)) (Err BadPeer)
    (Ok tt)))))))

-- ---- the call: what is handed back, the receive buffer, and what is left of lent memory
pub record Out : Type 0 where
  pub got : Received
  pub buffer : List ℕ
  pub left : Lent

abbrev pub received : Conn → ℕ → Result Answer Refusal → Option (Result Sighting Refusal) → Received
received c n a s = record { conn = c; taken = n; answer = a; sight = s }

-- "3 to 11 .. shut the connection when raised on it"
abbrev pub shut_if : Result Answer Refusal → Conn → Conn
shut_if (Ok (Reply n)) c = c
shut_if (Ok (Heard n f)) c = c
shut_if (Err r) c = with_framing c framing.Shut
shut_if (Ok More) c = c

-- a whole message: n bytes were taken
abbrev pub done : Link → ℕ → Dealing → Out
done link n d = record { got = received (shut_if d.answer link.conn) n d.answer d.sight; buffer = link.buffer; left = d.left }

-- what the framing answers, and what is done with it
abbrev pub by_event : Result (Option ℕ) Refusal → Peer → Link → ℕ → Lent → Out
by_event (Ok (Some size)) me link n l = done link n (dealing_of me link.conn (take size link.buffer) l)
by_event (Err r) me link n l = done link n (untouched (Err r) l)
by_event (Ok None) me link n l = done link n (untouched (Ok More) l)

-- a piece, up to its first event
unfoldable pub taken_of : Peer → Link → List ℕ → Lent → Out
taken_of me link bs l =
    let o = framed_of link.conn.framing link.buffer bs in
    by_event o.got.answer me (linked (with_framing link.conn o.got.framing) o.buffer) o.got.taken l

-- "0 to 2 consume and change nothing"
abbrev pub unless : Result ⊤ Refusal → Link → Lent → Out → Out
unless (Err r) link l o = record { got = received link.conn 0 (Err r) None; buffer = link.buffer; left = l }
unless (Ok tt) link l o = o

-- us, the connection, a piece, lent memory
unfoldable pub receive_of : Peer → Link → List ℕ → Lent → Out
receive_of me link bs l = unless (gate_of me link l) link l (taken_of me link bs l)

-- ---- what code gives
-- the result and the lent buffers are those that o says
pub record Gives (o : Out) (r : Received) (m t k y : List ℕ) : Type 0 where
  pub got : r ≡ o.got
  pub buffer : m ≡ o.buffer
  pub contacts : t ≡ o.left.contacts
  pub records : k ≡ o.left.records
  pub reply : y ≡ o.left.reply

-- and of a whole message, after n bytes: those that d says
pub record Deals (d : Dealing) (c : Conn) (n : ℕ) (r : Received) (t k y : List ℕ) : Type 0 where
  pub got : r ≡ received (shut_if d.answer c) n d.answer d.sight
  pub contacts : t ≡ d.left.contacts
  pub records : k ≡ d.left.records
  pub reply : y ≡ d.left.reply
