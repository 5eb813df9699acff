-- A box in use: what it holds, what a host may call, and what each call does, in the words of `node`'s definitions. Over it `cutting` has the
-- connections, their pieces, and the plain reading.
use Rattle.std.specs.Prelude.{ℕ, ◌+◌, ◌≤◌, ◌≡◌, Bool, true, false, cond, List, [], ◌∷◌, ◌++◌, length, take, eqb}
use Rattle.octets.specs.Octets.{Bytes, same}
use Rattle.limits.specs.Limits.{most_body, least_reply}
use Rattle.refusal.specs.declared.Refusal.{Refusal}
use Rattle.peer.specs.declared.Peer.{Peer}
use Rattle.contacts.specs.Form.{in_form as contacts_form}
use Rattle.sightings.specs.declared.Sighting.{Sighting}
use Rattle.sightings.specs.declared.Settled.{Settled}
use Rattle.sightings_kept.specs.Promises.{Fair}
use Rattle.records.specs.Store.{in_form as records_form, put_answer, put_after, find_of}
use Rattle.records_history.specs.History.{Offer}
use Rattle.message.specs.Message.{Record, Message, message_of}
use Rattle.message.specs.View.{reading_of, fields_of}
use Rattle.message.specs.declared.Fields.{Fields}
use Rattle.lookup.specs.Value.{Lookup, Step}
use Rattle.lookup.specs.Lookup.{next_of}
use Rattle.stream.specs.declared.Framing.{Framing}
use Rattle.stream.specs.Stream.{fresh, receive_of as framed_of}
use Rattle.cutting.specs.Frames.{Event, message, refused as broken}
use Rattle.cutting.specs.World.{Did, Line, Called, Layer, set_at}
use Rattle.replies.specs.Lent as lents
use Rattle.replies.specs.Lent.{Lent}
use Rattle.message.specs.Kinds.{put_value}
use Rattle.answer_promises.specs.Promises.{Roomed}
use Rattle.connections.specs.declared.Conn.{Conn}
use Rattle.host_calls.specs.declared.Nearby.{Nearby}
use Rattle.node.specs.declared.Answer.{Answer}
use Rattle.node.specs.declared.Answer.TheVariants.{Reply, Heard, More}
use Rattle.connections.specs.Box.{own_fits, open_of, end_conn}
use Rattle.node.specs.Node.{Link, linked, Dealing, dealing_of, receive_of}
use Rattle.host_calls.specs.Hosts.{seen_of, seen_after, settle_of, settle_after, remove_of, remove_after, doubt_of, doubt_after, nearest_to, lookup_start, lookup_reply, lookup_failure}
use Rattle.std.specs.Prelude.{Ok, Err, Some, None, Result, Option, ⊤}
use Rattle.records.specs.declared.Held.{Held}

-- ---- what there is to see
-- what came of an event on a connection: the reply's bytes and the sighting beside it; a message for the host, and its view; a refusal; an end
pub data Outcome : Type 0 where
  replied : List ℕ → Option (Result Sighting Refusal) → Outcome
  heard : List ℕ → Fields → Outcome
  refused : Refusal → Outcome
  ended : Result ⊤ Refusal → Outcome

-- what came of another call
pub data Gave : Type 0 where
  put_gave : Result ⊤ Refusal → Gave
  find_gave : Result (Option Held) Refusal → Gave
  seen_gave : Result Sighting Refusal → Gave
  settle_gave : Result Settled Refusal → Gave
  remove_gave : Result ⊤ Refusal → Gave
  doubt_gave : Result ⊤ Refusal → Gave
  nearest_gave : Nearby → Gave
  step_gave : Step → Gave

-- a line of the log: connection i, after so many of its bytes; connection i opened; another call
pub data Entry : Type 0 where
  event : ℕ → ℕ → Outcome → Entry
  opened : ℕ → Result ⊤ Refusal → Entry
  called : Gave → Entry

-- ---- what the connections share: lent memory, lookups by number, for each connection the last message that went to the host, the log, and every record
-- offered to the store, typed or sent
pub record Box : Type 0 where
  pub lent : Lent
  pub lookups : ℕ → Lookup
  pub inbox : ℕ → List ℕ
  pub log : List Entry
  pub offers : List Offer

-- what one change leaves
abbrev pub with_lent : Box → Lent → Box
with_lent a l = record { lent = l; lookups = a.lookups; inbox = a.inbox; log = a.log; offers = a.offers }

abbrev pub with_contacts : Box → List ℕ → Box
with_contacts a t = with_lent a (lents.with_contacts a.lent t)

abbrev pub with_records : Box → List ℕ → Box
with_records a k = with_lent a (lents.with_records a.lent k)

abbrev pub with_lookup : Box → ℕ → Lookup → Box
with_lookup a j l = record { lent = a.lent; lookups = set_at a.lookups j l; inbox = a.inbox; log = a.log; offers = a.offers }

abbrev pub with_message : Box → ℕ → List ℕ → Box
with_message a i body = record { lent = a.lent; lookups = a.lookups; inbox = set_at a.inbox i body; log = a.log; offers = a.offers }

abbrev pub with_offers : Box → List Offer → Box
with_offers a os = record { lent = a.lent; lookups = a.lookups; inbox = a.inbox; log = a.log; offers = a.offers ++ os }

abbrev pub logged : Box → Entry → Box
logged a e = record { lent = a.lent; lookups = a.lookups; inbox = a.inbox; log = a.log ++ (e ∷ []); offers = a.offers }

-- ---- a connection
-- who is at its other end
pub record Who : Type 0 where
  pub peer : Peer
  pub server : Bool
  pub asking : Bool

abbrev pub conn_of : Who → Framing → Conn
conn_of w f = record { peer = w.peer; framing = f; server = w.server; asking = w.asking }

abbrev pub link_of : Line Who → Link
link_of l = linked (conn_of l.who l.framing) l.buffer

abbrev pub who_in : Conn → Who
who_in c = record { peer = c.peer; server = c.server; asking = c.asking }

abbrev pub is_refused : Result Answer Refusal → Bool
is_refused (Ok (Reply n)) = false
is_refused (Ok (Heard n f)) = false
is_refused (Err r) = true
is_refused (Ok More) = false

abbrev pub is_more : Result Answer Refusal → Bool
is_more (Ok (Reply n)) = false
is_more (Ok (Heard n f)) = false
is_more (Err r) = false
is_more (Ok More) = true

-- the record that a request offers to the store
abbrev pub offer_by : Result Fields Refusal → Message → Option Record → List Offer
offer_by (Err r) m h = []
offer_by (Ok f) m None = []
offer_by (Ok f) m (Some r) =
    cond (eqb m.kind put_value) (cond (same r.key m.key) (record { key = m.key; value = r.value } ∷ []) []) []

abbrev pub offer_in : Who → List ℕ → List Offer
offer_in w body = cond w.asking [] (offer_by (reading_of body) (message_of body) (message_of body).held)

-- the message that is whole at the receive buffer's start, if that is what the framing answers, and what it offers
abbrev pub body_in : Result (Option ℕ) Refusal → List ℕ → List ℕ
body_in (Ok (Some n)) m = take n m
body_in (Err r) m = []
body_in (Ok None) m = []

abbrev pub offers_in : Who → Result (Option ℕ) Refusal → List ℕ → List Offer
offers_in w (Ok (Some n)) m = offer_in w (take n m)
offers_in w (Err r) m = []
offers_in w (Ok None) m = []

-- ---- what a host may call, beside handing pieces over
-- opening a connection, with a receive buffer of its own, and ending it
pub data Turn : Type 0 where
  opens : (id : List ℕ) → (server asking : Bool) → (addresses buffer : List ℕ) → Turn
  ends : Turn

-- "buffers that 0 and 1 don't refuse"
abbrev pub Fits : Turn → Type 0
Fits (opens id server asking addresses m) = most_body ≤ length m
Fits ends = Unit {0}

-- calls on no connection; a lookup goes by a number. `replyFrom i j id` hands the message that connection i gave last to lookup j
pub data Ask : Type 0 where
  put : (key value : List ℕ) → Ask
  find : (key : List ℕ) → Ask
  seen : (id : List ℕ) → (client : Bool) → (addresses : List ℕ) → Ask
  settle : (head id : List ℕ) → (client : Bool) → (addresses : List ℕ) → (answered : Bool) → Ask
  remove : (id : List ℕ) → Ask
  doubt : (id : List ℕ) → Ask
  nearest : (key : List ℕ) → Ask
  start : (j : ℕ) → (key : List ℕ) → (limit : ℕ) → Ask
  next : (j : ℕ) → Ask
  reply : (j : ℕ) → (id body : List ℕ) → Fields → Ask
  reply_from : (i j : ℕ) → (id : List ℕ) → Ask
  failure : (j : ℕ) → (id : List ℕ) → Ask

-- ---- what an answer leaves: lent memory, and what there is to see of it. `body` is the message that it answers
abbrev pub noted : ℕ → ℕ → Result Answer Refusal → Option (Result Sighting Refusal) → List ℕ → Lent → List Offer → Box → Box
noted i at (Ok (Reply n)) s body l os a = logged (with_offers (with_lent a l) os) (event i at (replied (take n l.reply) s))
noted i at (Ok (Heard n f)) s body l os a = logged (with_message (with_offers (with_lent a l) os) i body) (event i at (heard body f))
noted i at (Err r) s body l os a = logged (with_offers (with_lent a l) os) (event i at (refused r))
noted i at (Ok More) s body l os a = with_offers (with_lent a l) os

module _ (me : Peer) where
  -- ---- the plain reading's side: what a whole message on connection i, or a broken prefix, does
  abbrev pub dealing : Who → Box → List ℕ → Dealing
  dealing w a body = dealing_of me (conn_of w fresh) body a.lent

  abbrev pub happens : ℕ → Who → Box → Event → Box
  happens i w a (message at body) = let d = dealing w a body in noted i at d.answer d.sight body d.left (offer_in w body) a
  happens i w a (broken at r) = logged a (event i at (refused r))

  abbrev pub stops_at : ℕ → Who → Box → Event → Bool
  stops_at i w a (message at body) = is_refused (dealing w a body).answer
  stops_at i w a (broken at r) = true

  -- ---- the box's side
  -- one call of `receive`, on a connection that 0 to 2 don't refuse
  abbrev pub receiving : ℕ → Line Who → Box → List ℕ → Called Who Box
  receiving i l a bs =
      let o = receive_of me (link_of l) bs a.lent in
      let e = (framed_of l.framing l.buffer bs).got.answer in
      record {
        line = record { who = who_in o.got.conn; framing = o.got.conn.framing; buffer = o.buffer; taken = l.taken + o.got.taken };
        state =
            noted i (l.taken + o.got.taken) o.got.answer o.got.sight (body_in e o.buffer) o.left (offers_in l.who e o.buffer) a;
        count = o.got.taken;
        more = is_more o.got.answer;
      }

  -- opening and ending a connection
  abbrev pub turning : ℕ → Turn → Line Who → Box → Did (Line Who) Box
  turning i (opens id server asking addresses m) l a =
      let o = open_of me id server asking addresses in
      record {
        line = record { who = who_in o.conn; framing = o.conn.framing; buffer = m; taken = 0 };
        shared = logged a (opened i o.told);
      }
  turning i ends l a =
      let e = end_conn me (conn_of l.who l.framing) in
      record {
        line = record { who = who_in e.conn; framing = e.conn.framing; buffer = l.buffer; taken = l.taken };
        shared = logged a (event i l.taken (ended e.answer));
      }

  -- a lookup's step: the lookup that comes back, and the answer
  abbrev pub stepping : ℕ → Step → Box → Box
  stepping j s a = logged (with_lookup a j s.lookup) (called (step_gave s))

  abbrev pub asking : Box → Ask → Box
  asking a (put key value) =
      logged (with_offers (with_records a (put_after a.lent.records key value)) (record { key = key; value = value } ∷ []))
      (called (put_gave (put_answer a.lent.records key value)))
  asking a (find key) = logged a (called (find_gave (find_of a.lent.records key)))
  asking a (seen id client addresses) =
      logged (with_contacts a (seen_after me a.lent.contacts id client addresses)) (called (seen_gave (seen_of me a.lent.contacts id client addresses)))
  asking a (settle head id client addresses answered) =
      logged (with_contacts a (settle_after me a.lent.contacts head id client addresses answered))
      (called (settle_gave (settle_of me a.lent.contacts head id client addresses answered)))
  asking a (remove id) = logged (with_contacts a (remove_after me a.lent.contacts id)) (called (remove_gave (remove_of me a.lent.contacts id)))
  asking a (doubt id) = logged (with_contacts a (doubt_after me a.lent.contacts id)) (called (doubt_gave (doubt_of me a.lent.contacts id)))
  asking a (nearest key) = logged a (called (nearest_gave (nearest_to me a.lent.contacts key)))
  asking a (start j key limit) = stepping j (lookup_start me a.lent.contacts key limit) a
  asking a (next j) = stepping j (next_of (a.lookups j)) a
  asking a (reply j id body view) = stepping j (lookup_reply me (a.lookups j) id body view) a
  asking a (reply_from i j id) = stepping j (lookup_reply me (a.lookups j) id (a.inbox i) (fields_of (a.inbox i))) a
  asking a (failure j id) = stepping j (lookup_failure me (a.lookups j) id) a

  -- the whole
  abbrev pub box : Layer Who Box Turn Ask
  box = record { receive = receiving; put = happens; stops = stops_at; act = turning; host = asking }

  -- ---- what the demands ask of hosts
  -- a box as `start` gives it
  pub record Own : Type 0 where
    pub fits : own_fits me ≡ true
    pub roomed : Roomed me
    pub long : length me.place ≡ 32
    pub bytes : Bytes me.place

  -- a peer as `open` gives it
  abbrev pub Allowed : Who → Type 0
  Allowed w = Fair me.place w.peer

  -- memory that is in form, and a reply buffer that 1 doesn't refuse
  pub record Good (a : Box) : Type 0 where
    pub contacts : contacts_form a.lent.contacts me.place ≡ true
    pub records : records_form a.lent.records ≡ true
    pub room : least_reply ≤ length a.lent.reply
