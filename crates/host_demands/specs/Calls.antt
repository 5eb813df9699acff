-- A C or Rust program that uses the box: the memory that it lends, the calls that it makes, what each returns and leaves, in the words of crate `host`, and
-- the world of crate `demands` that this memory stands for.
use Rattle.std.specs.Prelude.{ℕ, zero, suc, ◌+◌, ◌≤◌, ◌≡◌, Bool, cond, ◌||◌, List, [], ◌∷◌, ◌++◌, length, take, drop, eqb}
use Rattle.std.proofs.lemmas.List.Edits.{sets}
use Rattle.refusal.specs.Refusal.{number_of}
use Rattle.records.specs.Store.{put_answer, put_after, find_of}
use Rattle.records_history.specs.History.{Offer}
use Rattle.message.specs.View.{fields_of}
use Rattle.lookup.specs.Value.{Step}
use Rattle.lookup.specs.Lookup.{next_of}
use Rattle.cutting.specs.World.{Line, World, Mark, happened, asked, Call, hand, does, asks, set_at}
use Rattle.replies.specs.Lent as lents
use Rattle.replies.specs.Lent.{Lent}
use Rattle.node.specs.Node.{Out}
use Rattle.host_calls.specs.Hosts.{lookup_start, lookup_reply, lookup_failure}
use Rattle.flat.specs.Flat.{conn_size, peer_in, conn_in, says_yes}
use Rattle.flat_lookup.specs.FlatLookup.{flat_size, lookup_in}
use Rattle.host_numbers.specs.Numbers.{told_code, view_numbers, view_in}
use Rattle.contact_calls.specs.Calls.{seen_number, settle_number, remove_number, doubt_number}
use Rattle.host_answers.specs.Answers.{seen_numbers, nearest_numbers, put_number, find_number, find_numbers}
use Rattle.host_state.specs.State.{ending_code, answer_number, answer_length, sight_number, sight_slot, received_numbers, received_memory, nothing_taken}
use Rattle.lookup_in_place.specs.InPlace.{step_memory, started_memory}
use Rattle.host_steps.specs.Steps.{step_number, step_numbers}
use Rattle.host.specs.Host as host
use Rattle.demands.specs.Box as box
use Rattle.demands.specs.Box.{Box, Who, who_in, Entry, Outcome, Gave, Turn, Ask}
use Rattle.std.specs.Prelude.{None, Result, Option}
use Rattle.refusal.specs.declared.Refusal.{Refusal}
use Rattle.sightings.specs.declared.Sighting.{Sighting}

-- ---- what a program lends beside the box: contacts, records, a reply buffer; for each connection its bytes and its receive buffer; the bytes of each lookup.
-- Of each connection it also keeps the message that it gave last, and how many of its bytes were taken since it was opened: it adds up the first numbers that
-- receives write to out
pub record Memory : Type 0 where
  pub lent : Lent
  pub conns : ℕ → List ℕ
  pub buffers : ℕ → List ℕ
  pub lookups : ℕ → List ℕ
  pub inbox : ℕ → List ℕ
  pub taken : ℕ → ℕ

-- ---- what it calls, by the names of crate `host` without starterbell: connections and lookups go by numbers. `opens` also lends a receive buffer;
-- `lookupHears i j id` is starterbell_lookup_reply with the message that connection i gave last, and its view
pub data Export : Type 0 where
  opens : (i : ℕ) → (id : List ℕ) → (server asking : ℕ) → (addresses buffer : List ℕ) → Export
  receives : (i : ℕ) → (piece : List ℕ) → Export
  ends : (i : ℕ) → Export
  put : (key value : List ℕ) → Export
  find : (key : List ℕ) → Export
  seen : (id : List ℕ) → (client : ℕ) → (addresses : List ℕ) → Export
  settle : (head id : List ℕ) → (client : ℕ) → (addresses : List ℕ) → (answered : ℕ) → Export
  remove : (id : List ℕ) → Export
  doubt : (id : List ℕ) → Export
  nearest : (key : List ℕ) → Export
  lookup_starts : (j : ℕ) → (key : List ℕ) → (limit : ℕ) → Export
  lookup_next : (j : ℕ) → Export
  lookup_replies : (j : ℕ) → (id body view : List ℕ) → Export
  lookup_hears : (i j : ℕ) → (id : List ℕ) → Export
  lookup_fails : (j : ℕ) → (id : List ℕ) → Export

-- connections have 640 bytes each, lookups 25,256, or more
pub record Enough (m : Memory) : Type 0 where
  pub conns : (i : ℕ) → conn_size ≤ length (m.conns i)
  pub lookups : (j : ℕ) → flat_size ≤ length (m.lookups j)

-- ---- what changes, and that all else stays
abbrev pub with_lent : Memory → Lent → Memory
with_lent m l = record { lent = l; conns = m.conns; buffers = m.buffers; lookups = m.lookups; inbox = m.inbox; taken = m.taken }

abbrev pub with_contacts : Memory → List ℕ → Memory
with_contacts m t = with_lent m (lents.with_contacts m.lent t)

abbrev pub with_records : Memory → List ℕ → Memory
with_records m k = with_lent m (lents.with_records m.lent k)

abbrev pub with_conn : Memory → ℕ → List ℕ → List ℕ → ℕ → Memory
with_conn m i conn buffer taken =
    record {
      lent = m.lent;
      conns = set_at m.conns i conn;
      buffers = set_at m.buffers i buffer;
      lookups = m.lookups;
      inbox = m.inbox;
      taken = set_at m.taken i taken;
    }

abbrev pub with_lookup : Memory → ℕ → List ℕ → Memory
with_lookup m j l =
    record { lent = m.lent; conns = m.conns; buffers = m.buffers; lookups = set_at m.lookups j l; inbox = m.inbox; taken = m.taken }

-- what a program sees of a call: the number that it returns, the bytes of a reply or of a message that it gives, and what it makes of the numbers in out.
-- Of a receive these are the ones past the first two, the bytes taken, which hang on the cut, and the length. An event on a connection, as a receive or an end
-- gives it, also has its place: how many bytes of the connection were taken then. Elsewhere that is 0
pub record Seen : Type 0 where
  pub at : ℕ
  pub number : ℕ
  pub bytes : List ℕ
  pub numbers : List ℕ → List ℕ

-- no bytes
abbrev pub told_at : ℕ → ℕ → (List ℕ → List ℕ) → Seen
told_at at n numbers = record { at = at; number = n; bytes = []; numbers = numbers }

-- of no connection's event
abbrev pub told : ℕ → (List ℕ → List ℕ) → Seen
told n numbers = told_at 0 n numbers

-- and no numbers
abbrev pub only_number : ℕ → Seen
only_number n = told n (λ out. out)

-- a receive that returns r gives the bytes of the reply (65) or of the message for a lookup (66), n of them
abbrev pub bytes_of : ℕ → ℕ → List ℕ → List ℕ → List ℕ
bytes_of r n reply buffer = cond (eqb r 65) (take n reply) (cond (eqb r 66) (take n buffer) [])

-- a message for a lookup (66) is kept
abbrev pub kept : Memory → ℕ → ℕ → List ℕ → ℕ → List ℕ
kept m i r message = cond (eqb r 66) (set_at m.inbox i message) m.inbox

-- 64, more bytes are wanted, and 2, on a connection that is shut, are no events
abbrev pub no_event : ℕ → Bool
no_event r = eqb r 64 || eqb r 2

module _ (me : List ℕ) where
  -- ---- receiving
  abbrev pub received_by : Memory → ℕ → List ℕ → Out
  received_by m i piece = host.receive_for me (m.conns i) (m.buffers i) piece m.lent

  -- the number returned, the first number in out (the bytes taken), and the second (the length of a reply or a message)
  abbrev pub receive_code : Memory → ℕ → List ℕ → ℕ
  receive_code m i piece = host.lent_both me (m.conns i) 0 (answer_number (received_by m i piece).got.answer)

  abbrev pub taken_by : Memory → ℕ → List ℕ → ℕ
  taken_by m i piece = host.lent_both me (m.conns i) 0 (received_by m i piece).got.taken

  abbrev pub length_by : Memory → ℕ → List ℕ → ℕ
  length_by m i piece = host.lent_both me (m.conns i) 0 (answer_length (received_by m i piece).got.answer)

  abbrev pub receive_leaves : Memory → ℕ → List ℕ → Memory
  receive_leaves m i piece =
      let o = received_by m i piece in
      let conn = m.conns i in
      record {
        lent = host.lent_both me conn m.lent o.left;
        conns = set_at m.conns i (host.lent_both me conn conn (received_memory conn o.got));
        buffers = set_at m.buffers i (host.lent_both me conn (m.buffers i) o.buffer);
        lookups = m.lookups;
        inbox = kept m i (receive_code m i piece) (take (length_by m i piece) (host.lent_both me conn (m.buffers i) o.buffer));
        taken = set_at m.taken i (m.taken i + taken_by m i piece);
      }

  -- ---- lookups
  abbrev pub start_step : Memory → List ℕ → ℕ → Step
  start_step m key limit = lookup_start (peer_in me) m.lent.contacts key limit

  abbrev pub next_step : Memory → ℕ → Step
  next_step m j = next_of (lookup_in (m.lookups j))

  abbrev pub reply_step : Memory → ℕ → List ℕ → List ℕ → List ℕ → Step
  reply_step m j id body view = lookup_reply (peer_in me) (lookup_in (m.lookups j)) id body (view_in view)

  abbrev pub heard_step : Memory → ℕ → ℕ → List ℕ → Step
  heard_step m i j id = reply_step m j id (m.inbox i) (view_numbers (fields_of (m.inbox i)))

  abbrev pub failure_step : Memory → ℕ → List ℕ → Step
  failure_step m j id = lookup_failure (peer_in me) (lookup_in (m.lookups j)) id

  -- ---- what a call returns
  abbrev pub returns : Memory → Export → ℕ
  returns m (opens i id server asking addresses buffer) = host.open_code me (m.conns i) id server asking addresses
  returns m (receives i piece) = receive_code m i piece
  returns m (ends i) = host.end_code me (m.conns i)
  returns m (put key value) = put_number (put_answer m.lent.records key value)
  returns m (find key) = find_number (find_of m.lent.records key)
  returns m (seen id client addresses) = host.seen_code me m.lent.contacts id client addresses
  returns m (settle head id client addresses answered) = host.settle_code me m.lent.contacts head id client addresses answered
  returns m (remove id) = host.remove_code me m.lent.contacts id
  returns m (doubt id) = host.doubt_code me m.lent.contacts id
  returns m (nearest key) = host.nearest_code me m.lent.contacts key
  returns m (lookup_starts j key limit) = cond (host.too_short me (m.lookups j)) 0 (step_number (start_step m key limit).answer)
  returns m (lookup_next j) = host.lent flat_size (m.lookups j) 0 (step_number (next_step m j).answer)
  returns m (lookup_replies j id body view) = cond (host.too_short me (m.lookups j)) 0 (step_number (reply_step m j id body view).answer)
  returns m (lookup_hears i j id) = cond (host.too_short me (m.lookups j)) 0 (step_number (heard_step m i j id).answer)
  returns m (lookup_fails j id) = cond (host.too_short me (m.lookups j)) 0 (step_number (failure_step m j id).answer)

  -- ---- and what it leaves
  abbrev pub leaves : Memory → Export → Memory
  leaves m (opens i id server asking addresses buffer) = with_conn m i (host.open_memory me (m.conns i) id server asking addresses) buffer 0
  leaves m (receives i piece) = receive_leaves m i piece
  leaves m (ends i) = with_conn m i (host.end_memory me (m.conns i)) (m.buffers i) (m.taken i)
  leaves m (put key value) = with_records m (put_after m.lent.records key value)
  leaves m (find key) = m
  leaves m (seen id client addresses) = with_contacts m (host.seen_contacts me m.lent.contacts id client addresses)
  leaves m (settle head id client addresses answered) = with_contacts m (host.settle_contacts me m.lent.contacts head id client addresses answered)
  leaves m (remove id) = with_contacts m (host.remove_contacts me m.lent.contacts id)
  leaves m (doubt id) = with_contacts m (host.doubt_contacts me m.lent.contacts id)
  leaves m (nearest key) = m
  leaves m (lookup_starts j key limit) =
      with_lookup m j (cond (host.too_short me (m.lookups j)) (m.lookups j) (started_memory (m.lookups j) (start_step m key limit)))
  leaves m (lookup_next j) = with_lookup m j (host.lent flat_size (m.lookups j) (m.lookups j) (step_memory (m.lookups j) (next_step m j)))
  leaves m (lookup_replies j id body view) =
      with_lookup m j (cond (host.too_short me (m.lookups j)) (m.lookups j) (step_memory (m.lookups j) (reply_step m j id body view)))
  leaves m (lookup_hears i j id) =
      with_lookup m j (cond (host.too_short me (m.lookups j)) (m.lookups j) (step_memory (m.lookups j) (heard_step m i j id)))
  leaves m (lookup_fails j id) =
      with_lookup m j (cond (host.too_short me (m.lookups j)) (m.lookups j) (step_memory (m.lookups j) (failure_step m j id)))

  -- ---- what it makes of out: nothing, where it has none
  abbrev pub writes : Memory → Export → List ℕ → List ℕ
  writes m (opens i id server asking addresses buffer) out = out
  writes m (receives i piece) out = host.lent_both me (m.conns i) (nothing_taken out) (received_numbers out (received_by m i piece).got)
  writes m (ends i) out = out
  writes m (put key value) out = out
  writes m (find key) out = find_numbers out (find_of m.lent.records key)
  writes m (seen id client addresses) out = host.seen_out me m.lent.contacts id client addresses out
  writes m (settle head id client addresses answered) out = out
  writes m (remove id) out = out
  writes m (doubt id) out = out
  writes m (nearest key) out = host.nearest_out me m.lent.contacts key out
  writes m (lookup_starts j key limit) out = cond (host.too_short me (m.lookups j)) out (step_numbers out (start_step m key limit))
  writes m (lookup_next j) out = host.lent flat_size (m.lookups j) out (step_numbers out (next_step m j))
  writes m (lookup_replies j id body view) out = cond (host.too_short me (m.lookups j)) out (step_numbers out (reply_step m j id body view))
  writes m (lookup_hears i j id) out = cond (host.too_short me (m.lookups j)) out (step_numbers out (heard_step m i j id))
  writes m (lookup_fails j id) out = cond (host.too_short me (m.lookups j)) out (step_numbers out (failure_step m j id))

  -- ---- what the program sees: of a receive, only events
  abbrev pub sees : Memory → Export → Seen
  sees m c = told (returns m c) (writes m c)

  abbrev pub sees_of : Memory → Export → List Seen
  sees_of m (opens i id server asking addresses buffer) = sees m (opens i id server asking addresses buffer) ∷ []
  sees_of m (receives i piece) =
      let r = receive_code m i piece in
      let n = receive_leaves m i piece in
      cond (no_event r) []
      (record {
        at = n.taken i;
        number = r;
        bytes = bytes_of r (length_by m i piece) n.lent.reply (n.buffers i);
        numbers = λ out. drop 2 (writes m (receives i piece) out);
      } ∷ [])
  sees_of m (ends i) = told_at (m.taken i) (returns m (ends i)) (writes m (ends i)) ∷ []
  sees_of m (put key value) = sees m (put key value) ∷ []
  sees_of m (find key) = sees m (find key) ∷ []
  sees_of m (seen id client addresses) = sees m (seen id client addresses) ∷ []
  sees_of m (settle head id client addresses answered) = sees m (settle head id client addresses answered) ∷ []
  sees_of m (remove id) = sees m (remove id) ∷ []
  sees_of m (doubt id) = sees m (doubt id) ∷ []
  sees_of m (nearest key) = sees m (nearest key) ∷ []
  sees_of m (lookup_starts j key limit) = sees m (lookup_starts j key limit) ∷ []
  sees_of m (lookup_next j) = sees m (lookup_next j) ∷ []
  sees_of m (lookup_replies j id body view) = sees m (lookup_replies j id body view) ∷ []
  sees_of m (lookup_hears i j id) = sees m (lookup_hears i j id) ∷ []
  sees_of m (lookup_fails j id) = sees m (lookup_fails j id) ∷ []

  -- ---- the same call in the demands' world: a receive hands over the bytes that it took
  abbrev pub meant : Memory → Export → Call Turn Ask
  meant m (opens i id server asking addresses buffer) = does i (box.opens id (says_yes server) (says_yes asking) addresses buffer)
  meant m (receives i piece) = hand i (take (taken_by m i piece) piece)
  meant m (ends i) = does i box.ends
  meant m (put key value) = asks (box.put key value)
  meant m (find key) = asks (box.find key)
  meant m (seen id client addresses) = asks (box.seen id (says_yes client) addresses)
  meant m (settle head id client addresses answered) = asks (box.settle head id (says_yes client) addresses (says_yes answered))
  meant m (remove id) = asks (box.remove id)
  meant m (doubt id) = asks (box.doubt id)
  meant m (nearest key) = asks (box.nearest key)
  meant m (lookup_starts j key limit) = asks (box.start j key limit)
  meant m (lookup_next j) = asks (box.next j)
  meant m (lookup_replies j id body view) = asks (box.reply j id body (view_in view))
  meant m (lookup_hears i j id) = asks (box.reply_from i j id)
  meant m (lookup_fails j id) = asks (box.failure j id)

  -- ---- the order of events and other calls, as the program sees it
  abbrev pub mark_of : Bool → Call Turn Ask → List (Mark Ask)
  mark_of quiet (hand i p) = cond quiet [] (happened i ∷ [])
  mark_of quiet (does i b) = happened i ∷ []
  mark_of quiet (asks o) = asked o ∷ []

  abbrev pub marks_of : Memory → Export → List (Mark Ask)
  marks_of m c = mark_of (no_event (returns m c)) (meant m c)

  -- ---- one call after the other
  unfoldable pub leaves_all : Memory → List Export → Memory
  leaves_all m [] = m
  leaves_all m (c ∷ cs) = leaves_all (leaves m c) cs

  unfoldable pub meant_all : Memory → List Export → List (Call Turn Ask)
  meant_all m [] = []
  meant_all m (c ∷ cs) = meant m c ∷ meant_all (leaves m c) cs

  unfoldable pub sees_all : Memory → List Export → List Seen
  sees_all m [] = []
  sees_all m (c ∷ cs) = sees_of m c ++ sees_all (leaves m c) cs

  unfoldable pub marks_all : Memory → List Export → List (Mark Ask)
  marks_all m [] = []
  marks_all m (c ∷ cs) = marks_of m c ++ marks_all (leaves m c) cs

  -- ---- a program that hands over a piece: after a reply or a message it hands over the rest; more bytes wanted, or a refusal, ends it. That takes no more
  -- calls than the piece has bytes, and one
  unfoldable pub handing : ℕ → Memory → ℕ → List ℕ → List Export
  handing zero m i piece = []
  handing (suc f) m i piece =
      let r = receive_code m i piece in
      receives i piece ∷ cond (eqb r 65 || eqb r 66) (handing f (receive_leaves m i piece) i (drop (taken_by m i piece) piece)) []

  abbrev pub hands_over : Memory → ℕ → List ℕ → List Export
  hands_over m i piece = handing (suc (length piece)) m i piece

-- ---- the world that memory stands for. What that world has and memory hasn't: the log, the offers, and the order of events
pub record History : Type 0 where
  pub log : List Entry
  pub offers : List Offer
  pub order : List (Mark Ask)

abbrev pub line_in : List ℕ → List ℕ → ℕ → Line Who
line_in conn buffer n = record { who = who_in (conn_in conn); framing = (conn_in conn).framing; buffer = buffer; taken = n }

abbrev pub world_in : Memory → History → World Who Box Ask
world_in m h =
    record {
      lines = λ i. line_in (m.conns i) (m.buffers i) (m.taken i);
      shared = record {
        state = record {
          lent = m.lent;
          lookups = λ j. lookup_in (m.lookups j);
          inbox = m.inbox;
          log = h.log;
          offers = h.offers;
        };
        order = h.order;
      };
    }

abbrev pub history_of : World Who Box Ask → History
history_of w = record { log = w.shared.state.log; offers = w.shared.state.offers; order = w.shared.order }

-- memory stands for a world that has nothing else than these bytes and its history
abbrev pub Stands : Memory → World Who Box Ask → Type 0
Stands m w = world_in m (history_of w) ≡ w

-- ---- what a program sees of an entry of that world's log
-- the numbers past the first two: what came of the sender's sighting, its slot, and the view of a message
abbrev pub past_two : Option (Result Sighting Refusal) → List ℕ → List ℕ → List ℕ
past_two s view out = drop 2 (sets out 0 ((0 ∷ 0 ∷ sight_number s ∷ sight_slot s ∷ []) ++ view))

abbrev pub outcome_seen : ℕ → Outcome → Seen
outcome_seen at (box.replied bytes s) = record { at = at; number = 65; bytes = bytes; numbers = past_two s [] }
outcome_seen at (box.heard body view) = record { at = at; number = 66; bytes = body; numbers = past_two None (view_numbers view) }
outcome_seen at (box.refused r) = told_at at (number_of r) (past_two None [])
outcome_seen at (box.ended e) = told_at at (ending_code e) (λ out. out)

abbrev pub result_seen : Gave → Seen
result_seen (box.put_gave a) = only_number (put_number a)
result_seen (box.find_gave f) = told (find_number f) (λ out. find_numbers out f)
result_seen (box.seen_gave o) = told (seen_number o) (λ out. seen_numbers out o)
result_seen (box.settle_gave o) = only_number (settle_number o)
result_seen (box.remove_gave o) = only_number (remove_number o)
result_seen (box.doubt_gave o) = only_number (doubt_number o)
result_seen (box.nearest_gave n) = told (told_code n.told) (λ out. nearest_numbers out n)
result_seen (box.step_gave s) = told (step_number s.answer) (λ out. step_numbers out s)

abbrev pub entry_seen : Entry → Seen
entry_seen (box.event i at o) = outcome_seen at o
entry_seen (box.opened i t) = only_number (told_code t)
entry_seen (box.called r) = result_seen r
