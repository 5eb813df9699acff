-- What C and Rust programs get: each call returns a number, and leaves the memory that the host lent as these definitions say. The box, a connection and a
-- lookup are bytes (crates/flat, crates/flat_lookup); contacts and records are what they are in the crates below.
use Rattle.std.specs.Prelude.{ℕ, ◌≡◌, Bool, cond, ◌||◌, List, length, ltb}
use Rattle.std.proofs.lemmas.List.Edits.{sets}
use Rattle.connections.specs.declared.Opened.{Opened}
use Rattle.node.specs.Box.{start_of, open_of, end_conn}
use Rattle.replies.specs.Lent as memory
use Rattle.node.specs.Node.{linked, Out, receive_of}
use Rattle.lookup.specs.Value.{Step}
use Rattle.lookup.specs.Lookup.{next_of}
use Rattle.host_calls.specs.Hosts.{seen_of, seen_after, settle_of, settle_after, remove_of, remove_after, doubt_of, doubt_after, nearest_to, lookup_start, lookup_reply, lookup_failure}
use Rattle.flat.specs.Flat.{peer_size, conn_size, peer_in, conn_in, says_yes, conn_bytes}
use Rattle.flat_lookup.specs.FlatLookup.{flat_size, lookup_in}
use Rattle.host_numbers.specs.Numbers.{told_code, view_in}
use Rattle.contact_calls.specs.Calls.{seen_number, settle_number, remove_number, doubt_number}
use Rattle.host_answers.specs.Answers.{seen_numbers, nearest_numbers}
use Rattle.host_state.specs.State.{box_after, ending_code, ended_memory, answer_number, received_numbers, received_memory, nothing_taken}
use Rattle.lookup_in_place.specs.InPlace.{step_memory, started_memory}
use Rattle.host_steps.specs.Steps.{step_number, step_numbers}

-- ---- memory that the host lends
-- memory of under n bytes can't be what it is lent for: the first, else the second
unfoldable pub lent : {A : Type 0} → ℕ → List ℕ → A → A → A
lent n s short enough = cond (ltb (length s) n) short enough

-- the same for a box and a connection
abbrev pub lent_both : {A : Type 0} → List ℕ → List ℕ → A → A → A
lent_both me conn short enough = lent peer_size me short (lent conn_size conn short enough)

-- ---- start and open
abbrev pub start_code : List ℕ → List ℕ → List ℕ → ℕ
start_code me id addresses = lent peer_size me 0 (told_code (start_of id addresses).told)

abbrev pub start_memory : List ℕ → List ℕ → List ℕ → List ℕ
start_memory me id addresses = lent peer_size me me (box_after me (start_of id addresses))

-- a refused open gives a shut connection, which is written too
abbrev pub open_for : List ℕ → List ℕ → ℕ → ℕ → List ℕ → Opened
open_for me id server asking addresses = open_of (peer_in me) id (says_yes server) (says_yes asking) addresses

abbrev pub open_code : List ℕ → List ℕ → List ℕ → ℕ → ℕ → List ℕ → ℕ
open_code me conn id server asking addresses = lent_both me conn 0 (told_code (open_for me id server asking addresses).told)

abbrev pub open_memory : List ℕ → List ℕ → List ℕ → ℕ → ℕ → List ℕ → List ℕ
open_memory me conn id server asking addresses =
    lent_both me conn conn (sets conn 0 (conn_bytes (open_for me id server asking addresses).conn))

-- ---- the end of a connection's bytes
abbrev pub end_code : List ℕ → List ℕ → ℕ
end_code me conn = lent_both me conn 0 (ending_code (end_conn (peer_in me) (conn_in conn)).answer)

abbrev pub end_memory : List ℕ → List ℕ → List ℕ
end_memory me conn = lent_both me conn conn (ended_memory conn (end_conn (peer_in me) (conn_in conn)))

-- ---- contacts
abbrev pub seen_code : List ℕ → List ℕ → List ℕ → ℕ → List ℕ → ℕ
seen_code me t id client addresses = lent peer_size me 0 (seen_number (seen_of (peer_in me) t id (says_yes client) addresses))

abbrev pub seen_contacts : List ℕ → List ℕ → List ℕ → ℕ → List ℕ → List ℕ
seen_contacts me t id client addresses = lent peer_size me t (seen_after (peer_in me) t id (says_yes client) addresses)

abbrev pub seen_out : List ℕ → List ℕ → List ℕ → ℕ → List ℕ → List ℕ → List ℕ
seen_out me t id client addresses out = lent peer_size me out (seen_numbers out (seen_of (peer_in me) t id (says_yes client) addresses))

abbrev pub settle_code : List ℕ → List ℕ → List ℕ → List ℕ → ℕ → List ℕ → ℕ → ℕ
settle_code me t head id client addresses answered = lent peer_size me 0 (settle_number (settle_of (peer_in me) t head id (says_yes client) addresses (says_yes answered)))

abbrev pub settle_contacts : List ℕ → List ℕ → List ℕ → List ℕ → ℕ → List ℕ → ℕ → List ℕ
settle_contacts me t head id client addresses answered =
    lent peer_size me t (settle_after (peer_in me) t head id (says_yes client) addresses (says_yes answered))

abbrev pub remove_code : List ℕ → List ℕ → List ℕ → ℕ
remove_code me t id = lent peer_size me 0 (remove_number (remove_of (peer_in me) t id))

abbrev pub remove_contacts : List ℕ → List ℕ → List ℕ → List ℕ
remove_contacts me t id = lent peer_size me t (remove_after (peer_in me) t id)

abbrev pub doubt_code : List ℕ → List ℕ → List ℕ → ℕ
doubt_code me t id = lent peer_size me 0 (doubt_number (doubt_of (peer_in me) t id))

abbrev pub doubt_contacts : List ℕ → List ℕ → List ℕ → List ℕ
doubt_contacts me t id = lent peer_size me t (doubt_after (peer_in me) t id)

abbrev pub nearest_code : List ℕ → List ℕ → List ℕ → ℕ
nearest_code me t key = lent peer_size me 0 (told_code (nearest_to (peer_in me) t key).told)

abbrev pub nearest_out : List ℕ → List ℕ → List ℕ → List ℕ → List ℕ
nearest_out me t key out = lent peer_size me out (nearest_numbers out (nearest_to (peer_in me) t key))

-- ---- receiving
abbrev pub receive_for : List ℕ → List ℕ → List ℕ → List ℕ → memory.Lent → Out
receive_for me conn m bs l = receive_of (peer_in me) (linked (conn_in conn) m) bs l

-- the box, a connection, its receive buffer, a piece, contacts, records, reply buffer and out; then what is returned and each lent slice afterwards
pub record Receives (me conn m bs t k y out : List ℕ) (r : ℕ) (conn' m' t' k' y' out' : List ℕ) : Type 0 where
  pub code : r ≡ lent_both me conn 0 (answer_number (receive_for me conn m bs (memory.lent t k y)).got.answer)
  pub connection : conn' ≡ lent_both me conn conn (received_memory conn (receive_for me conn m bs (memory.lent t k y)).got)
  pub buffer : m' ≡ lent_both me conn m (receive_for me conn m bs (memory.lent t k y)).buffer
  pub contacts : t' ≡ lent_both me conn t (receive_for me conn m bs (memory.lent t k y)).left.contacts
  pub records : k' ≡ lent_both me conn k (receive_for me conn m bs (memory.lent t k y)).left.records
  pub reply : y' ≡ lent_both me conn y (receive_for me conn m bs (memory.lent t k y)).left.reply
  pub numbers : out' ≡ lent_both me conn (nothing_taken out) (received_numbers out (receive_for me conn m bs (memory.lent t k y)).got)

-- ---- lookups
-- the memory of a box or of a lookup has too few bytes
unfoldable pub too_short : List ℕ → List ℕ → Bool
too_short me m = ltb (length me) peer_size || ltb (length m) flat_size

-- whether memory is too short, what the step gave and the lookup memory that it leaves; lookup memory and out; what is returned and those two afterwards
pub record Steps (short : Bool) (s : Step) (after m out : List ℕ) (r : ℕ) (m' out' : List ℕ) : Type 0 where
  pub code : r ≡ cond short 0 (step_number s.answer)
  pub memory : m' ≡ cond short m after
  pub numbers : out' ≡ cond short out (step_numbers out s)

abbrev pub Begins : List ℕ → List ℕ → List ℕ → List ℕ → ℕ → List ℕ → ℕ → List ℕ → List ℕ → Type 0
Begins me m t key limit out r m' out' =
    let s = lookup_start (peer_in me) t key limit in Steps (too_short me m) s (started_memory m s) m out r m' out'

abbrev pub Nexts : List ℕ → List ℕ → ℕ → List ℕ → List ℕ → Type 0
Nexts m out r m' out' = let s = next_of (lookup_in m) in Steps (ltb (length m) flat_size) s (step_memory m s) m out r m' out'

abbrev pub Replies : List ℕ → List ℕ → List ℕ → List ℕ → List ℕ → List ℕ → ℕ → List ℕ → List ℕ → Type 0
Replies me m id body view out r m' out' =
    let s = lookup_reply (peer_in me) (lookup_in m) id body (view_in view) in Steps (too_short me m) s (step_memory m s) m out r m' out'

abbrev pub Fails : List ℕ → List ℕ → List ℕ → List ℕ → ℕ → List ℕ → List ℕ → Type 0
Fails me m id out r m' out' = let s = lookup_failure (peer_in me) (lookup_in m) id in Steps (too_short me m) s (step_memory m s) m out r m' out'
