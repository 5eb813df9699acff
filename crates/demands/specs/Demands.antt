-- The three demands, as statements about a box that a start gave. Each stands under the words it says; proofs/Theorems.antt proves all of them
-- (`first`, `second`, `third`). `Box.antt` says what a box in use is; `cutting` what hosts, pieces and the plain reading are.
use Rattle.std.specs.Prelude.{ℕ, ◌+◌, ◌<◌, ◌≤◌, ◌≡◌, Bool, true, false, List, [], ◌∷◌, ◌++◌, map, length, take, drop}
use Rattle.octets.specs.Octets.{Bytes, part}
use Rattle.limits.specs.Limits.{most_body, least_reply}
use Rattle.refusal.specs.declared.Refusal.{Refusal}
use Rattle.refusal.specs.declared.Refusal.TheVariants.{OutOfForm}
use Rattle.refusal.specs.Refusal.{number_of}
use Rattle.place.specs.Place.{place_of}
use Rattle.peer.specs.declared.Peer.{Peer}
use Rattle.contacts.specs.Table.{slots_of, slot, used, doubtful, place}
use Rattle.contacts.specs.Form.{in_form as contacts_form}
use Rattle.contacts.specs.Near.{nearest_slots}
use Rattle.entries.specs.Entries.{contact_entry, peer_entry}
use Rattle.contacts.specs.Claims.{AreNearest}
use Rattle.sightings_kept.specs.Promises.{Hashed}
use Rattle.recipe.specs.Recipe.{outranks}
use Rattle.records.specs.Store.{between, put_answer, put_after, find_of}
use Rattle.records_history.specs.History.{got, Offer, after, cleared, Accepted, Unbeaten}
use Rattle.recipe_fields.specs.Claims.{Claims as RecipeFields}
use Rattle.records_history.specs.Claims.{FormIsBlind, HighestIsFound, HeldIsFound, JudgedFirst, PutTold, TakenWhole, RefusedBefore}
use Rattle.message.specs.Message.{Record, Message, message_of, decode, encode, frame}
use Rattle.message.specs.Claims.{ReadsWell, SplitIsMerged}
use Rattle.message.specs.View.{fields_of}
use Rattle.round_trip.specs.Claims.{RoundTrip, WrittenIsRead}
use Rattle.writer.specs.Writer.{answer_of, out_after}
use Rattle.lookup.specs.Value.{Lookup}
use Rattle.message.specs.Kinds.{put_value, get_value, find_node, key_fits}
use Rattle.lookup.specs.Lookup.{limit_fits, no_lookup}
use Rattle.lookup_runs.specs.Runs.{accepted, Started, Call as Step, step, outcome}
use Rattle.lookup_runs.specs.Claims.{Viewed, Claims}
use Rattle.stream.specs.declared.Framing.TheVariants.{Shut}
use Rattle.stream.specs.Stream.{fresh, is_shut, receive_of as framed_of}
use Rattle.cutting.specs.World.{put_back, Line, World, Call, hand, asks, given, joined, answered, call, calls, Fine, Ready, AllFit}
use Rattle.cutting.specs.Plain.{ReadOut, plainly, unread}
use Rattle.framing_back.specs.Claims.{PrefixIsVarint, FramesReadBack, hands, Arrives}
use Rattle.replies.specs.Lent.{Lent, with_records}
use Rattle.replies.specs.Replies.{last_entry}
use Rattle.replies.specs.Verdicts.{replies}
use Rattle.answer.specs.Answers.{verdict_of, deal_of}
use Rattle.answer_promises.specs.Promises.{Roomed, ReadsBack, AnsweredByVerdict, AnsweredByFields, SentAsTyped, Serves, HeldIsServed, GivenWhole, RefusedWhenSent}
use Rattle.node.specs.declared.Answer.TheVariants.{Reply}
use Rattle.connections.specs.Box.{start_of, open_of, end_conn}
use Rattle.node.specs.Node.{Link, Out, gate_of, receive_of}
use Rattle.host_contacts.specs.Claims.{ContactsTold}
use Rattle.host_calls.specs.Hosts.{seen_of, settle_of, remove_of, doubt_of, nearest_to, own_id, lookup_start}
use Rattle.node_promises.specs.Promises.{Refuses, CallsRefused, ValuesRefused, MessageDone, BoxCalls}
use Rattle.demands.specs.Lookups.{LookupsAreRuns}
use Rattle.demands.specs.Box.{event, heard, Box, Who, conn_of, link_of, body_in, Turn, Fits, Ask, put, box, Own, Allowed, Good}
use Rattle.std.specs.Prelude.{Ok, Err, Some, None}

-- ==== 1. "Whatever bytes a peer sends, in whatever amount, the box keeps to its memory and gives an answer. Every entry point takes any numbers and
-- any buffers": that every function has a contract with no precondition, and meets it, is what the checker shows. Here is the rest.

-- "A refused call changes no contact, record, lookup or reply byte; at most it takes bytes and shuts its connection": a receive leaves contacts, records and
-- reply, and 0, 1, 2 and 12, which its gate gives, take nothing, the others, 3 to 11, shut; seen, settle, remove and doubt leave the table; start, open, an end with 0
-- and nearest hand back nobody, a shut connection, the connection as it was, no contacts
pub record RefusedLeaves (me : Peer) : Type 0 where
  pub receive : (link : Link) (bs : List ℕ) (l : Lent) (r : Refusal) → (receive_of me link bs l).got.answer ≡ Err r → Refuses me link bs l r
  pub late : (link : Link) (bs : List ℕ) (l : Lent) → gate_of me link l ≡ Ok tt → (r : Refusal) → (receive_of me link bs l).got.answer ≡ Err r
      → (3 ≤ number_of r) × (number_of r ≤ 11)
  pub calls : CallsRefused
  pub values : ValuesRefused
  pub put : (k key value : List ℕ) (r : Refusal) → put_answer k key value ≡ Err r → put_after k key value ≡ k
  pub write : (y : List ℕ) (m : Message) (r : Refusal) → answer_of y m ≡ Err r → out_after y m ≡ y
  pub lookup : (l : Lookup) (c : Step) (r : Refusal) → (step c l).answer ≡ Err r → (step c l).lookup ≡ l
  -- the one exception (RULES, Lookup): "A refused start hands back an empty one"
  pub empties : (t key : List ℕ) (limit : ℕ) (r : Refusal) → (lookup_start me t key limit).answer ≡ Err r → (lookup_start me t key limit).lookup ≡ no_lookup

-- "refuses by the numbers in [RULES]", 0: memory once in form, and since changed by calls alone, is in form, and then no call gives 0
pub record NeverOutOfForm (me : Peer) : Type 0 where
  pub kept : (s : World Who Box Ask) → Ready (Allowed me) (Good me) s → (cs : List (Call Turn Ask)) → AllFit Fits cs → Ready (Allowed me) (Good me) (calls (box me) s cs)
  pub receive : (l : Line Who) (a : Box) (bs : List ℕ) → Fine (Allowed me) l → Good me a
      → (receive_of me (link_of l) bs a.lent).got.answer ≡ Err OutOfForm → ⊥
  pub opens : (id : List ℕ) (server asking : Bool) (addresses : List ℕ) → (open_of me id server asking addresses).told ≡ Err OutOfForm → ⊥
  pub end : (l : Line Who) → Fine (Allowed me) l → (end_conn me (conn_of l.who l.framing)).answer ≡ Err OutOfForm → ⊥
  pub seen : (a : Box) (id : List ℕ) (client : Bool) (addresses : List ℕ) → Good me a → seen_of me a.lent.contacts id client addresses ≡ Err OutOfForm → ⊥
  pub settle : (a : Box) (head id : List ℕ) (client : Bool) (addresses : List ℕ) (answered : Bool) → Good me a
      → settle_of me a.lent.contacts head id client addresses answered ≡ Err OutOfForm → ⊥
  pub remove : (a : Box) (id : List ℕ) → Good me a → remove_of me a.lent.contacts id ≡ Err OutOfForm → ⊥
  pub doubt : (a : Box) (id : List ℕ) → Good me a → doubt_of me a.lent.contacts id ≡ Err OutOfForm → ⊥
  pub nearest : (a : Box) (key : List ℕ) → Good me a → (nearest_to me a.lent.contacts key).told ≡ Err OutOfForm → ⊥
  pub put : (a : Box) (key value : List ℕ) → Good me a → put_answer a.lent.records key value ≡ Err OutOfForm → ⊥
  pub find : (a : Box) (key : List ℕ) → Good me a → find_of a.lent.records key ≡ Err OutOfForm → ⊥
  pub start : (a : Box) (key : List ℕ) (limit : ℕ) → Good me a → (lookup_start me a.lent.contacts key limit).answer ≡ Err OutOfForm → ⊥
  -- next, failure, and reply with the reader's view, of a lookup that a start gave and that since then came back from calls
  pub lookup : (t key : List ℕ) (limit : ℕ) → Started t (own_id me) me.place key limit → (cs : List Step) (c : Step) → Viewed c
      → (step c (outcome step (lookup_start me t key limit) cs).lookup).answer ≡ Err OutOfForm → ⊥
  -- the one exception (RULES, Lookup): after a start that was refused "later steps give 0"
  pub empty : (t key : List ℕ) (limit : ℕ) (r : Refusal) → (lookup_start me t key limit).answer ≡ Err r → (cs : List Step) (c : Step)
      → (step c (outcome step (lookup_start me t key limit) cs).lookup).answer ≡ Err OutOfForm

pub record First (me : Peer) : Type 0 where
  pub refused : RefusedLeaves me
  -- "the numbers in [RULES]", each given exactly when it says so, and what each answer does: of start, open and end, of seen, settle, remove and doubt, and of put;
  -- and a lookup starts where its key and its limit allow it
  pub calls : BoxCalls
  pub contacts : ContactsTold me
  pub puts : PutTold
  pub lookups : (t key : List ℕ) (limit : ℕ) → contacts_form t me.place ≡ true → key_fits key ≡ true → limit_fits limit ≡ true
      → accepted (lookup_start me t key limit).answer ≡ true
  pub formed : NeverOutOfForm me

-- ==== 2. The words of what is read and written
-- "what is written": after a `write` of m that answers n, the buffer y has the message with its prefix, in n bytes, and its other bytes as they were
pub record Writes (m : Message) (y : List ℕ) (n : ℕ) : Type 0 where
  pub size : n ≡ length (frame (encode m))
  pub stands : take n (out_after y m) ≡ frame (encode m)
  pub rest : drop n (out_after y m) ≡ drop n y
  pub back : decode (encode m) ≡ Some m

-- the message `says` is heard on connection i after n bytes of it: the world s is w then. The log has its bytes, a lookup can take them, and the next may come
pub record Hears (says : Message) (i n : ℕ) (s w : World Who Box Ask) : Type 0 where
  pub body : List ℕ
  pub means : decode body ≡ Some says
  pub log : w.shared.state.log ≡ s.shared.state.log ++ (event i ((s.lines i).taken + n) (heard body (fields_of body)) ∷ [])
  pub inbox : w.shared.state.inbox i ≡ body
  pub next : (w.lines i).framing ≡ fresh

-- the bytes that one box replies with, handed to another on a connection of its asking side, between messages, in any pieces
abbrev pub BoxToBox : Peer → Peer → Type 0
BoxToBox me you =
    (who : Peer) → Roomed who → (body : List ℕ) (l : Lent) → least_reply ≤ length l.reply → (n : ℕ) → (deal_of me who body l).told ≡ Ok n
    → (s : World Who Box Ask) → Ready (Allowed you) (Good you) s → (i : ℕ) → (s.lines i).framing ≡ fresh → (s.lines i).who.asking ≡ true
    → (ps : List (List ℕ)) → joined ps ≡ take n (deal_of me who body l).left.reply
    → (says : Message) × (verdict_of me who (message_of body) l ≡ replies says) × Hears says i n s (calls (box you) s (hands i ps))

-- what a query for a key of 1 to 128 bytes answers: the host's own gives the slots of the nearest contacts, and a peer's their entries, to which FIND_NODE may add one
pub record Queries (me : Peer) : Type 0 where
  pub host : (t key : List ℕ) → contacts_form t me.place ≡ true → key_fits key ≡ true
      → ((nearest_to me t key).told ≡ Ok tt) × (take (nearest_to me t key).closest.n (nearest_to me t key).closest.at ≡ nearest_slots t (place_of key))
  pub get : (who : Peer) (m : Message) (l : Lent) → m.kind ≡ get_value → key_fits m.key ≡ true
      → (r : Message) × (verdict_of me who m l ≡ replies r)
      × (r.closer ≡ map (λ i. contact_entry (slot l.contacts i)) (nearest_slots l.contacts (place_of m.key))) × (got l.records m.key ≡ None → r.held ≡ None)
  pub find : (who : Peer) (m : Message) (l : Lent) → m.kind ≡ find_node → key_fits m.key ≡ true
      → (r : Message) × (verdict_of me who m l ≡ replies r)
      × (r.closer ≡ map (λ i. contact_entry (slot l.contacts i)) (nearest_slots l.contacts (place_of m.key)) ++ last_entry me who l.contacts (place_of m.key))
  -- who asks for itself is told of itself: "The extra FIND_NODE entry stands even if its peer is doubtful" (RULES, Answers), or is no contact; one that is given has no
  -- second entry. Who asks for us is told of us. And nobody is told of another this way
  pub extra : (who : Peer) (t : List ℕ) → (who.place ≡ me.place → ⊥)
      → ((i : ℕ) → i < slots_of t → used (slot t i) ≡ true → place (slot t i) ≡ who.place → doubtful (slot t i) ≡ true) → last_entry me who t who.place ≡ peer_entry who ∷ []
  pub there : (who : Peer) (t : List ℕ) (i : ℕ) → Bytes t → contacts_form t me.place ≡ true → i < slots_of t → used (slot t i) ≡ true → place (slot t i) ≡ who.place
      → doubtful (slot t i) ≡ false → last_entry me who t who.place ≡ []
  pub ours : (who : Peer) (t : List ℕ) → contacts_form t me.place ≡ true → last_entry me who t me.place ≡ peer_entry me ∷ []
  pub nobody_else : (who : Peer) (t x : List ℕ) → (x ≡ me.place → ⊥) → (x ≡ who.place → ⊥) → last_entry me who t x ≡ []

-- as a host begins: memory cleared, every connection shut, buffers that 1 doesn't refuse
pub record Begun (s : World Who Box Ask) : Type 0 where
  pub contact_bytes : ℕ
  pub record_bytes : ℕ
  pub contacts : s.shared.state.lent.contacts ≡ cleared contact_bytes
  pub records : s.shared.state.lent.records ≡ cleared record_bytes
  pub reply : least_reply ≤ length s.shared.state.lent.reply
  pub shut : (i : ℕ) → (s.lines i).framing ≡ Shut
  pub buffers : (i : ℕ) → most_body ≤ length (s.lines i).buffer

pub record Second (me : Peer) : Type 0 where
  -- "Reading yields the fields the bytes carry"
  pub reads : (body : List ℕ) → ReadsWell body
  -- "Demand 2 reads by the merged rule" (request iv): of a record in several fields, the last key and the last value of all
  pub split : SplitIsMerged
  -- "what is written reads back as the same fields"
  pub writes : RoundTrip
  pub readable : WrittenIsRead
  pub written : (y : List ℕ) (m : Message) (n : ℕ) → answer_of y m ≡ Ok n → Writes m y n
  -- and so for the fields of a recipe, in both formats (request xi)
  pub recipes : RecipeFields
  -- with its length prefix, which is a varint of the same wire format: whatever follows, it is a whole message of that body; and handed over in any pieces, that
  -- message arrives
  pub prefix : PrefixIsVarint
  pub frames : FramesReadBack
  pub arrives : (s : World Who Box Ask) → Ready (Allowed me) (Good me) s → (i : ℕ) → (s.lines i).framing ≡ fresh → (body : List ℕ) → length body ≤ most_body
      → (ps : List (List ℕ)) → joined ps ≡ frame body → Arrives (box me) i body s (calls (box me) s (hands i ps))
  -- a request gets what its fields call for
  pub verdicts : AnsweredByVerdict me
  -- a reply is the message that the plain reading of the request calls for, it reads back as that message, and bytes after it stay
  pub replies : (who : Peer) → Roomed who → (body : List ℕ) (l : Lent) → least_reply ≤ length l.reply → (n : ℕ) → (deal_of me who body l).told ≡ Ok n
      → ReadsBack (verdict_of me who (message_of body) l) (deal_of me who body l) l.reply n
  -- and goes by what the request says alone, however it is written
  pub answers : AnsweredByFields me
  -- what a message is told is what its connection does: it replies so, or is refused so; or on the asking side the host hears it, with the reader's view
  pub done : MessageDone
  -- and what one box replies, another hears
  pub boxes : (you : Peer) → Own you → BoxToBox me you
  -- "A query answers the twenty contacts nearest by XOR of SHA-256, or all when fewer, nearest first"; by request x, of the contacts that aren't doubtful
  pub queries : Queries me
  pub nearest : (t key : List ℕ) → AreNearest t (place_of key) (nearest_slots t (place_of key))
  -- and that is the distance of SHA-256 of the ids: "memory once cleared, since then lent whole and changed by calls alone" holds each contact at its id's hash
  pub hashed : (s : World Who Box Ask) → Begun s → (cs : List (Call Turn Ask)) → AllFit Fits cs → Hashed (calls (box me) s cs).shared.state.lent.contacts
  -- "A lookup asks nobody twice. It reports complete only when the twenty nearest peers heard of that haven't failed, or all if fewer, have answered, and
  -- no peer was turned away for want of room": over the history of any calls since its start
  pub lookup : (t key : List ℕ) (limit : ℕ) → Started t (own_id me) me.place key limit → Claims step t key limit (lookup_start me t key limit)
  -- and every lookup of a world is such a run, whatever else is called between
  pub lookups : LookupsAreRuns me

-- ==== 3. The words of its last sentence, which speaks of records
-- what was offered to the store between two worlds of a run, typed or sent, in order
abbrev pub since : World Who Box Ask → World Who Box Ask → List Offer
since s w = drop (length s.shared.state.offers) w.shared.state.offers

-- one call of `receive` on connection i, and the message that the piece completes
abbrev pub receive_on : Peer → World Who Box Ask → ℕ → List ℕ → Out
receive_on me s i p = receive_of me (link_of (s.lines i)) p s.shared.state.lent

abbrev pub completed : Peer → World Who Box Ask → ℕ → List ℕ → Message
completed me s i p = message_of (body_in (framed_of (s.lines i).framing (s.lines i).buffer p).got.answer (receive_on me s i p).buffer)

-- "accepted .. sent": the last byte of a piece completes a PUT_VALUE of this key and value, and it gets a reply
pub record Sent (me : Peer) (s : World Who Box Ask) (i : ℕ) (p key value : List ℕ) : Type 0 where
  pub size : ℕ
  pub reply : (receive_on me s i p).got.answer ≡ Ok (Reply size)
  pub all : (receive_on me s i p).got.taken ≡ length p
  pub kind : (completed me s i p).kind ≡ put_value
  pub under : (completed me s i p).key ≡ key
  pub what : Record
  pub held : (completed me s i p).held ≡ Some what
  pub says : what.value ≡ value

-- "accepted, typed or sent": by the call c on the world s
pub data Accepts (me : Peer) (s : World Who Box Ask) (key value : List ℕ) (c : Call Turn Ask) : Type 0 where
  typed : c ≡ asks (put key value) → put_answer s.shared.state.lent.records key value ≡ Ok tt → Accepts me s key value c
  sent : (i : ℕ) (p : List ℕ) → c ≡ hand i p → Sent me s i p key value → Accepts me s key value c

-- "the one found under its key": by `find`, and in the reply to every GET_VALUE
pub record Finds (me : Peer) (k key value : List ℕ) : Type 0 where
  pub at : ℕ
  pub end : ℕ
  pub find : find_of k key ≡ Ok (Some (between at end))
  pub there : part k at end ≡ value
  pub asked : (who : Peer) (body : List ℕ) (l : Lent) (m : Message) → length body ≤ most_body → decode body ≡ Some m → m.kind ≡ get_value → m.key ≡ key
      → least_reply ≤ length l.reply → Serves (deal_of me who body (with_records l k)) l.reply key value

-- "Cutting changes nothing. Take the same start, buffers that 0 and 1 don't refuse, and the same order of completed messages, stream refusals,
-- opens, ends and other host calls on all connections. Hand over each connection's bytes once, before its end, in sequence, cut anywhere, empty pieces included."
pub record Third (me : Peer) : Type 0 where
  -- two hosts that do so, each with its own cuts, end in the same world: replies, refusals and their places (all in the log), contacts, records,
  -- lookups, half-read bytes
  pub cut : (s : World Who Box Ask) → Ready (Allowed me) (Good me) s → (cs ds : List (Call Turn Ask)) → AllFit Fits cs → AllFit Fits ds
      → ((i : ℕ) → given i cs ≡ given i ds) → (calls (box me) s cs).shared.order ≡ (calls (box me) s ds).shared.order → calls (box me) s cs ≡ calls (box me) s ds
  -- one call of `receive` is the hand-over of the bytes that it takes, up to the first event, and a piece is the same handed over in two: so other calls may come
  -- between any two events
  pub once : (s : World Who Box Ask) → Ready (Allowed me) (Good me) s → (i : ℕ) (p : List ℕ) → is_shut (s.lines i).framing ≡ false
      → let c = (box me).receive i (s.lines i) s.shared.state p in
      call (box me) s (hand i (take c.count p)) ≡ put_back s i (answered (box me) i s.shared c)
  pub split : (s : World Who Box Ask) → Ready (Allowed me) (Good me) s → (i : ℕ) (p q : List ℕ)
      → call (box me) s (hand i (p ++ q)) ≡ call (box me) (call (box me) s (hand i p)) (hand i q)
  -- "Each message then gets the reply bytes, or the refusal at the byte position, that demand 2's plain reading gives when it takes messages whole"
  pub plain : (s : World Who Box Ask) → Ready (Allowed me) (Good me) s → ((i : ℕ) → is_shut (s.lines i).framing ≡ false → (s.lines i).framing ≡ fresh)
      → s.shared.order ≡ [] → (cs : List (Call Turn Ask)) → AllFit Fits cs → ReadOut (plainly (box me) (unread s cs) (calls (box me) s cs).shared.order) (calls (box me) s cs)
  -- "A record once accepted, typed or sent, stays the one found under its key until a higher-ranking one is accepted": at any moment of a run, over any calls
  -- after it. And so does one that is there at the start of a run
  pub stays : (s : World Who Box Ask) → Ready (Allowed me) (Good me) s → (before : List (Call Turn Ask)) → AllFit Fits before → (c : Call Turn Ask) (key v : List ℕ)
      → Accepts me (calls (box me) s before) key v c → (later : List (Call Turn Ask)) → AllFit Fits later
      → let now = call (box me) (calls (box me) s before) c in
      let end = calls (box me) now later in
      Unbeaten key v now.shared.state.lent.records (since now end) → Finds me end.shared.state.lent.records key v
  pub lasts : (s : World Who Box Ask) → Ready (Allowed me) (Good me) s → (cs : List (Call Turn Ask)) → AllFit Fits cs → (key v : List ℕ)
      → Finds me s.shared.state.lent.records key v → Unbeaten key v s.shared.state.lent.records (since s (calls (box me) s cs))
      → Finds me (calls (box me) s cs).shared.state.lent.records key v
  -- the store is what the offers of all calls make of it, typed or sent; of those accepted none outranks what is found
  pub offers : (s : World Who Box Ask) → Ready (Allowed me) (Good me) s → (cs : List (Call Turn Ask)) → AllFit Fits cs
      → (calls (box me) s cs).shared.state.lent.records ≡ after s.shared.state.lent.records (since s (calls (box me) s cs))
  pub highest : (s : World Who Box Ask) → Ready (Allowed me) (Good me) s → (cs : List (Call Turn Ask)) → AllFit Fits cs → (key v : List ℕ)
      → Accepted key v s.shared.state.lent.records (since s (calls (box me) s cs))
      → (u : List ℕ) × Finds me (calls (box me) s cs).shared.state.lent.records key u × (outranks v u ≡ false)
  -- and that is what is found, sent to who asks for it and compared with what comes, whatever the recipe rules say of it (RULES, Recipes: "records already held
  -- stay held and are still served and ranked"); what comes, typed or sent, is judged before it is compared
  pub found : HeldIsFound
  pub history : HighestIsFound
  pub served : HeldIsServed me
  pub judged : JudgedFirst
  pub sent : SentAsTyped me
  -- nor does 0 look into a value
  pub blind : FormIsBlind
  -- request iii, "nobody may read it short": what a put takes, typed or sent, is given to its last byte by find, in replies and in their views; and a box of before
  -- the request refuses what is over its bounds, typed or sent; so does one that knows format 1 alone refuse what is of format 2 (request xi)
  pub whole : TakenWhole
  pub given_whole : GivenWhole me
  pub refused_before : RefusedBefore
  pub refused_when_sent : RefusedWhenSent

-- ==== all three, of every box that a start gave
abbrev pub Demands : Type 0
Demands = (me : Peer) → Own me → First me × Second me × Third me

-- ==== and there are such boxes and such worlds: a start that isn't refused gives one, and so does "memory once cleared"
pub record Beginnings : Type 0 where
  pub own : (id addresses : List ℕ) → (start_of id addresses).told ≡ Ok tt → Own (start_of id addresses).me
  pub ready : (me : Peer) (s : World Who Box Ask) → Begun s → Ready (Allowed me) (Good me) s
