-- What holds of a program that calls crate `host`, as statements. `hosted` in proofs/Theorems.antt proves the last, which has all of them; `starts` in
-- proofs/Starting.antt and `begins` in proofs/Beginning.antt show that there are such boxes and such memory.
use Rattle.std.specs.Prelude.{ℕ, ◌+◌, ◌≤◌, ◌<◌, ◌≡◌, ◌⊎◌, true, false, List, [], ◌∷◌, ◌++◌, map, length, get_or, take, drop}
use Rattle.std.proofs.lemmas.List.Edits.{sets}
use Rattle.octets.specs.Octets.{Bytes, part}
use Rattle.limits.specs.Limits.{most_body, least_reply}
use Rattle.sightings_kept.specs.Promises.{Hashed}
use Rattle.recipe.specs.Recipe.{outranks}
use Rattle.records_history.specs.History.{cleared}
use Rattle.message.specs.Message.{Record, Message, message_of, decode, encode, frame}
use Rattle.message.specs.View.{fields_of, reading_of}
use Rattle.message.specs.declared.Fields.{Fields}
use Rattle.lookup.specs.Lookup.{no_lookup}
use Rattle.lookup_runs.specs.Runs.{accepted}
use Rattle.stream.specs.declared.Framing.TheVariants.{Shut}
use Rattle.stream.specs.Stream.{receive_of as framed_of}
use Rattle.cutting.specs.World.{World, Sys, hand, call, calls, given, Ready, AllFit, set_at}
use Rattle.cutting.specs.Plain.{Wire, plainly, unread, Left}
use Rattle.flat.specs.Flat.{peer_size, conn_size, peer_in, conn_in, with_framing}
use Rattle.flat_lookup.specs.FlatLookup.{flat_size, lookup_in, lookup_bytes}
use Rattle.replies.specs.Lent.{lent}
use Rattle.message.specs.Kinds.{put_value, get_value}
use Rattle.connections.specs.Box.{start_of}
use Rattle.host_numbers.specs.Numbers.{view_numbers}
use Rattle.host.specs.Host as exports
use Rattle.host.specs.Host.{start_code, start_memory, Receives, Nexts, Replies, Fails}
use Rattle.demands.specs.Box.{Box, Who, body_in, Turn, Ask, Fits, box, Own, Allowed, Good}
use Rattle.demands.specs.Lookups.{Trace, start_in}
use Rattle.host_demands.specs.Calls as host
use Rattle.host_demands.specs.Calls.{Memory, Export, Enough, History, Seen, with_lookup, kept, received_by, taken_by, length_by, returns, leaves, writes, meant, sees_of, marks_of, leaves_all, meant_all, sees_all, marks_all, hands_over, world_in, Stands, entry_seen}
use Rattle.host_demands.specs.Lookups.{traced_in, LookupBytesAreRuns}
use Rattle.host_demands.specs.Messages.{ReadAs, MessagesCross}
use Rattle.host_demands.specs.Recipes.{RecipesCross}
use Rattle.std.specs.Prelude.{Ok, Some, None}

-- ==== the box, and memory to begin with
-- the memory of a box that starterbell_start wrote
pub record Started (me : List ℕ) : Type 0 where
  pub room : peer_size ≤ length me
  pub own : Own (peer_in me)

abbrev pub Starts : Type 0
Starts = (me id addresses : List ℕ) → start_code me id addresses ≡ 64 → Started (start_memory me id addresses) × (peer_in (start_memory me id addresses) ≡ (start_of id addresses).me)

-- a world that is ready for calls: `demands`
abbrev pub ReadyFor : List ℕ → World Who Box Ask → Type 0
ReadyFor me w = Ready (Allowed (peer_in me)) (Good (peer_in me)) w

-- bytes as calls write them: those of a connection's framing, and those of a lookup
pub record Written (m : Memory) : Type 0 where
  pub conns : (i : ℕ) → m.conns i ≡ with_framing (m.conns i) (conn_in (m.conns i)).framing
  pub lookups : (j : ℕ) → m.lookups j ≡ sets (m.lookups j) 0 (lookup_bytes (lookup_in (m.lookups j)))

-- memory once cleared, and nothing that happened yet
pub record Cleared (m : Memory) : Type 0 where
  pub contact_bytes : ℕ
  pub record_bytes : ℕ
  pub conn_bytes : ℕ → ℕ
  pub lookup_sizes : ℕ → ℕ
  pub contacts : m.lent.contacts ≡ cleared contact_bytes
  pub records : m.lent.records ≡ cleared record_bytes
  pub conns : (i : ℕ) → m.conns i ≡ cleared (conn_bytes i)
  pub lookups : (j : ℕ) → m.lookups j ≡ cleared (lookup_sizes j)
  pub conn_room : (i : ℕ) → conn_size ≤ conn_bytes i
  pub lookup_room : (j : ℕ) → flat_size ≤ lookup_sizes j
  pub buffers : (i : ℕ) → most_body ≤ length (m.buffers i)
  pub reply : least_reply ≤ length m.lent.reply

abbrev pub nothing_yet : History
nothing_yet = record { log = []; offers = []; order = [] }

-- is what all theorems below ask for
abbrev pub Begins : Type 0
Begins = (me : List ℕ) (m : Memory) → Cleared m → Enough m × Written m × ReadyFor me (world_in m nothing_yet)

-- ==== what a refused call leaves of a connection
-- 0, 1, 2 and 12 "consume and change nothing"; the other refusals
abbrev pub Early : ℕ → Type 0
Early n = (n ≤ 2) ⊎ (n ≡ 12)

pub record Late (n : ℕ) : Type 0 where
  pub above : 2 < n
  pub refusal : n < 64
  pub other : n ≡ 12 → ⊥

-- a connection, its receive buffer, and how many of its bytes were taken, are as they were
pub record ConnKept (m n : Memory) (i : ℕ) : Type 0 where
  pub conn : n.conns i ≡ m.conns i
  pub buffer : n.buffers i ≡ m.buffers i
  pub taken : n.taken i ≡ m.taken i

-- a call that isn't on connection i
pub record NotOn (i : ℕ) (c : Export) : Type 0 where
  pub opens : (id : List ℕ) (server asking : ℕ) (addresses buffer : List ℕ) → c ≡ host.opens i id server asking addresses buffer → ⊥
  pub receives : (piece : List ℕ) → c ≡ host.receives i piece → ⊥
  pub ends : c ≡ host.ends i → ⊥

module _ (me : List ℕ) where
  -- ==== `returns`, `leaves` and `writes` are what the contracts of crate `host` say: of the calls whose contract is a record
  pub record AsExported (m : Memory) : Type 0 where
    pub receive : (i : ℕ) (piece out : List ℕ) (r : ℕ) (conn' buffer' t' k' y' out' : List ℕ)
        → Receives me (m.conns i) (m.buffers i) piece m.lent.contacts m.lent.records m.lent.reply out r conn' buffer' t' k' y' out'
        → (r ≡ returns me m (host.receives i piece))
        × (record {
          lent = lent t' k' y';
          conns = set_at m.conns i conn';
          buffers = set_at m.buffers i buffer';
          lookups = m.lookups;
          inbox = kept m i r (take (length_by me m i piece) buffer');
          taken = set_at m.taken i (m.taken i + taken_by me m i piece);
        }
        ≡ leaves me m (host.receives i piece))
        × (out' ≡ writes me m (host.receives i piece) out)
        × (2 ≤ length out → (get_or out' 0 0 ≡ taken_by me m i piece) × (get_or out' 1 0 ≡ length_by me m i piece))
    -- and after 66 the message reads, and the eight numbers past the first four in out are its view
    pub view : (i : ℕ) (piece out : List ℕ) (r : ℕ) (conn' buffer' t' k' y' out' : List ℕ)
        → Receives me (m.conns i) (m.buffers i) piece m.lent.contacts m.lent.records m.lent.reply out r conn' buffer' t' k' y' out'
        → r ≡ 66
        → let body = take (length_by me m i piece) buffer' in
        (reading_of body ≡ Ok (fields_of body)) × (12 ≤ length out → take 8 (drop 4 out') ≡ view_numbers (fields_of body))
    pub start : (j : ℕ) (key : List ℕ) (limit : ℕ) (out : List ℕ) (r : ℕ) (l' out' : List ℕ) → exports.Begins me (m.lookups j) m.lent.contacts key limit out r l' out'
        → (r ≡ returns me m (host.lookup_starts j key limit)) × (with_lookup m j l' ≡ leaves me m (host.lookup_starts j key limit)) × (out' ≡ writes me m (host.lookup_starts j key limit) out)
    pub next : (j : ℕ) (out : List ℕ) (r : ℕ) (l' out' : List ℕ) → Nexts (m.lookups j) out r l' out'
        → (r ≡ returns me m (host.lookup_next j)) × (with_lookup m j l' ≡ leaves me m (host.lookup_next j)) × (out' ≡ writes me m (host.lookup_next j) out)
    pub reply : (j : ℕ) (id body view out : List ℕ) (r : ℕ) (l' out' : List ℕ) → Replies me (m.lookups j) id body view out r l' out'
        → (r ≡ returns me m (host.lookup_replies j id body view)) × (with_lookup m j l' ≡ leaves me m (host.lookup_replies j id body view)) × (out' ≡ writes me m (host.lookup_replies j id body view) out)
    pub failure : (j : ℕ) (id out : List ℕ) (r : ℕ) (l' out' : List ℕ) → Fails me (m.lookups j) id out r l' out'
        → (r ≡ returns me m (host.lookup_fails j id)) × (with_lookup m j l' ≡ leaves me m (host.lookup_fails j id)) × (out' ≡ writes me m (host.lookup_fails j id) out)

  -- ==== one call, on memory that stands for a world that is ready: what it leaves stands for the world after the same call, and what the program sees of
  -- it is what the log and the order of that world get
  pub record Follows (m : Memory) (w : World Who Box Ask) (c : Export) : Type 0 where
    pub enough : Enough (leaves me m c)
    pub stands : Stands (leaves me m c) (call (box (peer_in me)) w (meant me m c))
    pub log : map entry_seen (call (box (peer_in me)) w (meant me m c)).shared.state.log ≡ map entry_seen w.shared.state.log ++ sees_of me m c
    pub order : (call (box (peer_in me)) w (meant me m c)).shared.order ≡ w.shared.order ++ marks_of me m c

  abbrev pub OneCall : Type 0
  OneCall = (m : Memory) (w : World Who Box Ask) (c : Export) → Enough m → ReadyFor me w → Stands m w → Follows m w c

  -- ==== and so over any list of calls: the demands speak of what a program calls
  abbrev pub after : World Who Box Ask → Memory → List Export → World Who Box Ask
  after w m cs = calls (box (peer_in me)) w (meant_all me m cs)

  pub record FollowsAll (m : Memory) (w : World Who Box Ask) (cs : List Export) : Type 0 where
    pub enough : Enough (leaves_all me m cs)
    pub ready : ReadyFor me (after w m cs)
    pub stands : Stands (leaves_all me m cs) (after w m cs)
    pub log : map entry_seen (after w m cs).shared.state.log ≡ map entry_seen w.shared.state.log ++ sees_all me m cs
    pub order : (after w m cs).shared.order ≡ w.shared.order ++ marks_all me m cs

  abbrev pub AllCalls : Type 0
  AllCalls = (m : Memory) (w : World Who Box Ask) (cs : List Export) → Enough m → ReadyFor me w → Stands m w → AllFit Fits (meant_all me m cs) → FollowsAll m w cs

  -- a program that hands over a piece until it is used up does what `hand` does in the demands' world
  abbrev pub HandsOver : Type 0
  HandsOver =
      (m : Memory) (w : World Who Box Ask) (i : ℕ) (piece : List ℕ) → Enough m → ReadyFor me w → Stands m w
      → after w m (hands_over me m i piece) ≡ call (box (peer_in me)) w (hand i piece)

  -- ==== demand 1
  -- "A refused call changes no contact, record, lookup or reply byte": of any memory. Only a start writes its own lookup all the same
  pub record Keeps (m : Memory) (c : Export) : Type 0 where
    pub lent : (leaves me m c).lent ≡ m.lent
    pub lookups : (j : ℕ) → ((key : List ℕ) (limit : ℕ) → c ≡ host.lookup_starts j key limit → ⊥) → (leaves me m c).lookups j ≡ m.lookups j

  abbrev pub RefusedKeeps : Type 0
  RefusedKeeps = (m : Memory) (c : Export) → returns me m c < 64 → Keeps m c

  -- "at most it takes bytes and shuts its connection"
  -- connection i after a call on it that was refused: as it was, or shut, and no other byte of it changed
  pub record ShutAtMost (m : Memory) (i : ℕ) (c : Export) : Type 0 where
    pub early : Early (returns me m c) → ConnKept m (leaves me m c) i
    pub late : Late (returns me m c) → (leaves me m c).conns i ≡ with_framing (m.conns i) Shut

  pub record RefusedShuts : Type 0 where
    pub receives : (m : Memory) (i : ℕ) (piece : List ℕ) → ShutAtMost m i (host.receives i piece)
    pub takes : (m : Memory) (i : ℕ) (piece : List ℕ) → Early (returns me m (host.receives i piece)) → taken_by me m i piece ≡ 0
    pub ends : (m : Memory) (i : ℕ) → ShutAtMost m i (host.ends i)
    -- an open that is refused writes its connection, as one that is shut
    pub opens : (m : Memory) (i : ℕ) (id : List ℕ) (server asking : ℕ) (addresses buffer : List ℕ) → peer_size ≤ length me → conn_size ≤ length (m.conns i)
        → let c = host.opens i id server asking addresses buffer in
        returns me m c < 64 → (conn_in ((leaves me m c).conns i)).framing ≡ Shut
    -- and no call, refused or not, touches a connection that isn't its own
    pub others : (m : Memory) (c : Export) (i : ℕ) → NotOn i c → ConnKept m (leaves me m c) i

  -- "A refused start hands back an empty one"
  abbrev pub RefusedStart : Type 0
  RefusedStart =
      (m : Memory) (j : ℕ) (key : List ℕ) (limit : ℕ) → peer_size ≤ length me → flat_size ≤ length (m.lookups j) → returns me m (host.lookup_starts j key limit) < 64
      → lookup_in ((leaves me m (host.lookup_starts j key limit)).lookups j) ≡ no_lookup

  -- memory once in form, and since changed by calls alone, never gives 0
  pub record NeverZero (m : Memory) : Type 0 where
    pub opens : (i : ℕ) (id : List ℕ) (server asking : ℕ) (addresses buffer : List ℕ) → returns me m (host.opens i id server asking addresses buffer) ≡ 0 → ⊥
    pub receives : (i : ℕ) (piece : List ℕ) → returns me m (host.receives i piece) ≡ 0 → ⊥
    pub ends : (i : ℕ) → returns me m (host.ends i) ≡ 0 → ⊥
    pub put : (key value : List ℕ) → returns me m (host.put key value) ≡ 0 → ⊥
    pub find : (key : List ℕ) → returns me m (host.find key) ≡ 0 → ⊥
    pub seen : (id : List ℕ) (client : ℕ) (addresses : List ℕ) → returns me m (host.seen id client addresses) ≡ 0 → ⊥
    pub settle : (head id : List ℕ) (client : ℕ) (addresses : List ℕ) (answered : ℕ) → returns me m (host.settle head id client addresses answered) ≡ 0 → ⊥
    pub remove : (id : List ℕ) → returns me m (host.remove id) ≡ 0 → ⊥
    pub doubt : (id : List ℕ) → returns me m (host.doubt id) ≡ 0 → ⊥
    pub nearest : (key : List ℕ) → returns me m (host.nearest key) ≡ 0 → ⊥
    pub start : (j : ℕ) (key : List ℕ) (limit : ℕ) → returns me m (host.lookup_starts j key limit) ≡ 0 → ⊥

  abbrev pub Formed : Type 0
  Formed = (m : Memory) (h : History) (cs : List Export) → Enough m → ReadyFor me (world_in m h) → AllFit Fits (meant_all me m cs) → NeverZero (leaves_all me m cs)

  -- nor do next, a failure, and a reply with the reader's view, on a lookup whose last start wasn't refused. `lookupHears i j id` is such a reply, if
  -- connection i gave a message (66): that reads
  pub record StepsNotZero (m : Memory) (j : ℕ) : Type 0 where
    pub next : returns me m (host.lookup_next j) ≡ 0 → ⊥
    pub failure : (id : List ℕ) → returns me m (host.lookup_fails j id) ≡ 0 → ⊥
    pub reply : (id body : List ℕ) (f : Fields) → reading_of body ≡ Ok f → returns me m (host.lookup_replies j id body (view_numbers f)) ≡ 0 → ⊥

  -- the one exception (RULES, Lookup): after a start that was refused "later steps give 0"
  pub record StepsZero (m : Memory) (j : ℕ) : Type 0 where
    pub next : returns me m (host.lookup_next j) ≡ 0
    pub failure : (id : List ℕ) → returns me m (host.lookup_fails j id) ≡ 0
    pub reply : (id body view : List ℕ) → returns me m (host.lookup_replies j id body view) ≡ 0

  -- by the last start on lookup j among any calls, of which its trace tells (Lookups.antt). The contacts are memory, so bytes
  pub record LookupsFormed (m : Memory) (cs : List Export) (j : ℕ) (x : Trace Seen) : Type 0 where
    pub going : Bytes x.table → accepted (start_in (peer_in me) x).answer ≡ true → StepsNotZero (leaves_all me m cs) j
    pub empty : accepted (start_in (peer_in me) x).answer ≡ false → StepsZero (leaves_all me m cs) j

  abbrev pub StepsFormed : Type 0
  StepsFormed =
      (m : Memory) (h : History) (cs : List Export) → Enough m → ReadyFor me (world_in m h) → AllFit Fits (meant_all me m cs) → (j : ℕ) (x : Trace Seen)
      → traced_in me j m None cs ≡ Some x → LookupsFormed m cs j x

  -- ==== demand 2: in memory once cleared each contact lies at SHA-256 of its id
  abbrev pub ContactsHashed : Type 0
  ContactsHashed = (m : Memory) (cs : List Export) → Cleared m → AllFit Fits (meant_all me m cs) → Hashed (leaves_all me m cs).lent.contacts

  -- ==== demand 3
  -- "Cutting changes nothing", for two programs that call: the same memory, the same bytes, opens and ends on each connection, and the same order of events
  -- and other calls
  pub record Alike (m : Memory) (cs ds : List Export) : Type 0 where
    pub given : (i : ℕ) → given i (meant_all me m cs) ≡ given i (meant_all me m ds)
    pub order : marks_all me m cs ≡ marks_all me m ds

  -- every byte of memory ends the same, and both programs saw the same, event for event at the same byte
  pub record SameEnd (m : Memory) (cs ds : List Export) : Type 0 where
    pub memory : leaves_all me m cs ≡ leaves_all me m ds
    pub sees : sees_all me m cs ≡ sees_all me m ds

  abbrev pub CutAnywhere : Type 0
  CutAnywhere =
      (m : Memory) (h : History) (cs ds : List Export) → Enough m → Written m → ReadyFor me (world_in m h)
      → AllFit Fits (meant_all me m cs) → AllFit Fits (meant_all me m ds) → Alike m cs ds → SameEnd m cs ds

  -- "Each message then gets the reply bytes, or the refusal at the byte position, that demand 2's plain reading gives when it takes messages whole"
  abbrev pub plain_of : Memory → List Export → Sys (Wire Who Turn) Box
  plain_of m cs = plainly (box (peer_in me)) (unread (world_in m nothing_yet) (meant_all me m cs)) (marks_all me m cs)

  pub record ReadPlainly (m : Memory) (cs : List Export) : Type 0 where
    pub lent : (leaves_all me m cs).lent ≡ (plain_of m cs).shared.lent
    pub lookups : (j : ℕ) → lookup_in ((leaves_all me m cs).lookups j) ≡ (plain_of m cs).shared.lookups j
    pub sees : sees_all me m cs ≡ map entry_seen (plain_of m cs).shared.log
    -- "and half-read bytes end the same", and nothing that could be read is left
    pub half : (i : ℕ) → Left ((plain_of m cs).lines i) ((world_in (leaves_all me m cs) nothing_yet).lines i)

  abbrev pub Plainly : Type 0
  Plainly = (m : Memory) (cs : List Export) → Cleared m → AllFit Fits (meant_all me m cs) → ReadPlainly m cs

  -- ---- the words of its last sentence, which speaks of records
  -- the bytes of the message that a receive completes: they lie at the start of the receive buffer then. None, where it completes none
  abbrev pub completed : Memory → ℕ → List ℕ → List ℕ
  completed m i piece = body_in (framed_of (conn_in (m.conns i)).framing (m.buffers i) piece).got.answer (received_by me m i piece).buffer

  -- "accepted .. sent": a receive completes a PUT_VALUE of this key and value, and returns 65, a reply
  pub record Sent (m : Memory) (i : ℕ) (piece key value : List ℕ) : Type 0 where
    pub reply : returns me m (host.receives i piece) ≡ 65
    pub kind : (message_of (completed m i piece)).kind ≡ put_value
    pub under : (message_of (completed m i piece)).key ≡ key
    pub what : Record
    pub held : (message_of (completed m i piece)).held ≡ Some what
    pub says : what.value ≡ value

  -- "accepted, typed or sent": by the call c on the memory m
  pub data Accepts (m : Memory) (key value : List ℕ) (c : Export) : Type 0 where
    typed : c ≡ host.put key value → returns me m c ≡ 64 → Accepts m key value c
    sent : (i : ℕ) (piece : List ℕ) → c ≡ host.receives i piece → Sent m i piece key value → Accepts m key value c

  -- "until a higher-ranking one is accepted": none of the calls, as they come, accepts under this key what ranks higher than v
  unfoldable pub Unbeaten : List ℕ → List ℕ → Memory → List Export → Type 0
  Unbeaten key v m [] = Unit {0}
  Unbeaten key v m (c ∷ cs) = ((u : List ℕ) → Accepts m key u c → outranks u v ≡ true → ⊥) × Unbeaten key v (leaves me m c) cs

  -- a receive on the answering side completes a GET_VALUE of this key
  pub record Asks (m : Memory) (i : ℕ) (piece key : List ℕ) : Type 0 where
    pub side : (conn_in (m.conns i)).asking ≡ false
    pub size : ℕ
    pub whole : (framed_of (conn_in (m.conns i)).framing (m.buffers i) piece).got.answer ≡ Ok (Some size)
    pub says : Message
    pub reads : decode (completed m i piece) ≡ Some says
    pub kind : says.kind ≡ get_value
    pub under : says.key ≡ key

  -- and is answered with the value: it returns 65, and the reply's bytes are a message, with its prefix, that has this record; of its body starterbell_read shows the
  -- record, the value to its last byte
  pub record Serves (m : Memory) (i : ℕ) (piece key value : List ℕ) : Type 0 where
    pub reply : returns me m (host.receives i piece) ≡ 65
    pub says : Message
    pub bytes : take (length_by me m i piece) (leaves me m (host.receives i piece)).lent.reply ≡ frame (encode says)
    pub back : decode (encode says) ≡ Some says
    pub held : says.held ≡ Some (record { key = key; value = value })
    pub shown : ReadAs (encode says) says

  -- "the one found under its key": find returns 64 and writes to out where in the records its bytes begin and end; and every GET_VALUE is answered with it
  pub record Finds (m : Memory) (key value : List ℕ) : Type 0 where
    pub find : returns me m (host.find key) ≡ 64
    pub there : (out : List ℕ) → 2 ≤ length out
        → let at = writes me m (host.find key) out in part m.lent.records (get_or at 0 0) (get_or at 1 0) ≡ value
    pub asked : (i : ℕ) (piece : List ℕ) → Asks m i piece key → Serves m i piece key value

  -- "A record once accepted, typed or sent, stays the one found under its key until a higher-ranking one is accepted": at any moment of a run, over any calls
  -- after it
  abbrev pub Stays : Type 0
  Stays =
      (m : Memory) (h : History) → Enough m → ReadyFor me (world_in m h) → (before : List Export) → AllFit Fits (meant_all me m before)
      → (c : Export) (key v : List ℕ) → Accepts (leaves_all me m before) key v c
      → let now = leaves me (leaves_all me m before) c in
      (later : List Export) → AllFit Fits (meant_all me now later) → Unbeaten key v now later → Finds (leaves_all me now later) key v

  -- and so does one that is found when a run begins
  abbrev pub Lasts : Type 0
  Lasts =
      (m : Memory) (h : History) → Enough m → ReadyFor me (world_in m h) → (cs : List Export) → AllFit Fits (meant_all me m cs) → (key v : List ℕ)
      → Finds m key v → Unbeaten key v m cs → Finds (leaves_all me m cs) key v

  -- ==== all of it
  pub record Hosted : Type 0 where
    pub exported : (m : Memory) → AsExported m
    pub call : OneCall
    pub calls : AllCalls
    pub handing : HandsOver
    pub refused : RefusedKeeps
    pub shuts : RefusedShuts
    pub empties : RefusedStart
    pub formed : Formed
    pub steps : StepsFormed
    pub lookups : LookupBytesAreRuns me
    pub messages : MessagesCross
    pub recipes : RecipesCross
    pub hashed : ContactsHashed
    pub cut : CutAnywhere
    pub plain : Plainly
    pub stays : Stays
    pub lasts : Lasts

abbrev pub HostedDemands : Type 0
HostedDemands = (me : List ℕ) → Started me → Hosted me
