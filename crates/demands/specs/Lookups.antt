-- Lookups go by number, and the calls on one are mixed with all others. What happened to one of them is read off the calls as they are made: it is a run of
-- its last start and the calls on it since, so what `lookup_runs` claims of such runs holds of every lookup of every world. Proved in proofs/Traced.antt.
use Rattle.std.specs.Prelude.{ℕ, ◌≡◌, true, cond, List, [], ◌∷◌, ◌++◌, map, length, drop, eqb}
use Rattle.octets.specs.Octets.{Bytes}
use Rattle.peer.specs.declared.Peer.{Peer}
use Rattle.message.specs.View.{fields_of}
use Rattle.lookup.specs.Value.{Lookup, Step}
use Rattle.lookup_runs.specs.Runs.{accepted, Call as LookupCall, go_next, go_reply, go_fail, step, outcome}
use Rattle.lookup_runs.specs.History.{Event, history}
use Rattle.lookup_runs.specs.Claims.{Claims}
use Rattle.cutting.specs.World.{World, Call, hand, does, asks, call, calls}
use Rattle.host_calls.specs.Hosts.{own_id, lookup_start}
use Rattle.demands.specs.Box.{Box, Who, Entry, step_gave, called, Turn, Ask, put, find, seen, settle, remove, doubt, nearest, start, next, reply, reply_from, failure, box}
use Rattle.std.specs.Prelude.{Some, None, Option}

-- ---- what happened to a lookup: the contacts at its last start, with which key and limit that was, the calls on it since, and what was told of the start and
-- of each call. E is what can be told: an entry of the log, or what a program sees
pub record Trace (E : Type 0) : Type 0 where
  pub table : List ℕ
  pub key : List ℕ
  pub limit : ℕ
  pub calls : List LookupCall
  pub told : List E

-- what a call is to one lookup: a start of it, a call on it, or neither
pub data Part : Type 0 where
  starts : (key : List ℕ) → (limit : ℕ) → Part
  goes : LookupCall → Part
  neither : Part

-- the trace after it, if the contacts were t before it and es is what it told. There is none before the first start
abbrev pub trace_with : {E : Type 0} → List ℕ → List E → Part → Option (Trace E) → Option (Trace E)
trace_with t es (starts key limit) x = Some (record { table = t; key = key; limit = limit; calls = []; told = es })
trace_with t es (goes c) None = None
trace_with t es (goes c) (Some x) =
    Some (record { table = x.table; key = x.key; limit = x.limit; calls = x.calls ++ (c ∷ []); told = x.told ++ es })
trace_with t es neither x = x

-- what the log got between two worlds of a run
abbrev pub log_since : World Who Box Ask → World Who Box Ask → List Entry
log_since s w = drop (length s.shared.state.log) w.shared.state.log

module _ (me : Peer) (j : ℕ) where
  -- what a call is to lookup j, where `inbox` has the message that each connection gave last
  abbrev pub part_of : (ℕ → List ℕ) → Call Turn Ask → Part
  part_of inbox (hand i p) = neither
  part_of inbox (does i b) = neither
  part_of inbox (asks (put key value)) = neither
  part_of inbox (asks (find key)) = neither
  part_of inbox (asks (seen id client addresses)) = neither
  part_of inbox (asks (settle head id client addresses answered)) = neither
  part_of inbox (asks (remove id)) = neither
  part_of inbox (asks (doubt id)) = neither
  part_of inbox (asks (nearest key)) = neither
  part_of inbox (asks (start k key limit)) = cond (eqb j k) (starts key limit) neither
  part_of inbox (asks (next k)) = cond (eqb j k) (goes go_next) neither
  part_of inbox (asks (reply k id body view)) = cond (eqb j k) (goes (go_reply (own_id me) me.place id body view)) neither
  part_of inbox (asks (reply_from i k id)) = cond (eqb j k) (goes (go_reply (own_id me) me.place id (inbox i) (fields_of (inbox i)))) neither
  part_of inbox (asks (failure k id)) = cond (eqb j k) (goes (go_fail (own_id me) me.place id)) neither

  -- the trace of lookup j after any calls on the world s, if it was x before them
  unfoldable pub traced : World Who Box Ask → Option (Trace Entry) → List (Call Turn Ask) → Option (Trace Entry)
  traced s x [] = x
  traced s x (c ∷ cs) =
      let w = call (box me) s c in
      traced w (trace_with s.shared.state.lent.contacts (log_since s w) (part_of s.shared.state.inbox c) x) cs

-- what its start gave
abbrev pub start_in : {E : Type 0} → Peer → Trace E → Step
start_in me x = lookup_start me x.table x.key x.limit

-- ---- the lookup l is the run of its trace: `tells` says what is told of a step
pub record IsRun {E : Type 0} (me : Peer) (tells : Step → E) (x : Trace E) (l : Lookup) : Type 0 where
  -- it is what its calls, one after the other, made of what its start gave
  pub lookup : l ≡ (outcome step (start_in me x) x.calls).lookup
  -- what its start gave was told, and then each step of the history
  pub told : x.told ≡ map tells (start_in me x ∷ map (λ (e : Event). e.gave) (history step (start_in me x) x.calls))
  -- the last told is the outcome
  pub last : (before : List E) × (x.told ≡ before ++ (tells (outcome step (start_in me x) x.calls) ∷ []))
  -- "A lookup asks nobody twice. It reports complete only when ..": of that history, unless its start was refused. The contacts are memory, so bytes
  pub claims : Bytes x.table → accepted (start_in me x).answer ≡ true → Claims step x.table x.key x.limit (start_in me x)

pub record LookupsAreRuns (me : Peer) : Type 0 where
  -- whatever the world, and whatever is called on it: once started, lookup j is the run of its own start and calls, and the log tells of each what it gave
  pub runs : (s : World Who Box Ask) (cs : List (Call Turn Ask)) (j : ℕ) (x : Trace Entry) → traced me j s None cs ≡ Some x
      → IsRun me (λ g. called (step_gave g)) x ((calls (box me) s cs).shared.state.lookups j)
  -- a lookup that was started has a trace, whatever came before and after
  pub begins : (s : World Who Box Ask) (before after : List (Call Turn Ask)) (j : ℕ) (key : List ℕ) (limit : ℕ)
      → (x : Trace Entry) × (traced me j s None (before ++ (asks (start j key limit) ∷ after)) ≡ Some x)
  -- and what the log has told it keeps
  pub grows : (s : World Who Box Ask) (cs : List (Call Turn Ask)) → (calls (box me) s cs).shared.state.log ≡ s.shared.state.log ++ log_since s (calls (box me) s cs)
