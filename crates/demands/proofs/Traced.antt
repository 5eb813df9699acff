-- Each lookup of a world is the run of its own start and calls. Assumes nothing.
use Prim.Native.Nat.{ℕ, zero, suc, ◌+◌}
use mathlib.Core.Path.{◌≡◌, refl, sym, ap, ◌∙◌, subst}
use mathlib.Core.Bool.{Bool, true, false, cond}
use mathlib.Core.List.{List, [], ◌∷◌, ◌++◌, map, map-append, append-nil, append_assoc}
use lib.ListN.{length, drop}
use lib.Seq.{drop-append_seam}
use lib.Dec.{eqb}
use borrow.Author.Tests.{eqb-true, eq-eqb}
use Rattle.octets.proofs.Bools.{cond_ind}
use Rattle.peer.specs.declared.Peer.{Peer}
use Rattle.records_history.specs.History.{Offer}
use Rattle.message.specs.View.{fields_of}
use Rattle.lookup.specs.Value.{Lookup, Step}
use Rattle.lookup.specs.Lookup.{next_of}
use Rattle.lookup_runs.specs.Runs.{Call as LookupCall, go_next, go_reply, go_fail, step, outcome}
use Rattle.lookup_runs.specs.History.{Event, history}
use Rattle.lookup_runs.proofs.Theorems.{claims}
use Rattle.stream.specs.Stream.{is_shut, receive_of as framed_of}
use Rattle.cutting.specs.World.{Did, here, Line, Shared, World, Called, Call, hand, does, asks, answered, feed, handed, call, calls}
use Rattle.replies.specs.Lent.{Lent}
use Rattle.node.specs.declared.Answer.{Answer}
use Rattle.node.specs.declared.Answer.TheVariants.{Reply, Heard, More}
use Rattle.node.specs.Node.{receive_of}
use Rattle.host_calls.specs.Hosts.{own_id, lookup_start, lookup_reply, lookup_failure}
use Rattle.demands.specs.Box as box
use Rattle.demands.specs.Box.{Box, Who, conn_of, link_of, body_in, offers_in, Entry, Turn, Ask, noted, receiving, turning, asking}
use Rattle.demands.specs.Lookups.{Trace, Part, starts, goes, neither, trace_with, part_of, traced, start_in, IsRun, LookupsAreRuns}
use Rattle.std.specs.Prelude.{Ok, Err, Some, None, Result, Option}
use Rattle.refusal.specs.declared.Refusal.{Refusal}
use Rattle.sightings.specs.declared.Sighting.{Sighting}

-- ---- the log only grows
abbrev Longer : List Entry → List Entry → Type 0
Longer l k = (es : List Entry) × (k ≡ l ++ es)

no_more : (l : List Entry) → Longer l l
no_more l = ([], sym (append-nil l))

one_more : (l : List Entry) (e : Entry) → Longer l (l ++ (e ∷ []))
one_more l e = (e ∷ [], refl)

more-then : (l k m : List Entry) → Longer l k → Longer k m → Longer l m
more-then l k m p q = (p.0 ++ q.0, q.1 ∙ ap (λ (x : List Entry). x ++ q.0) p.1 ∙ append_assoc l p.0 q.0)

more-since : (l k : List Entry) → Longer l k → k ≡ l ++ drop (length l) k
more-since l k m = m.1 ∙ ap (λ (x : List Entry). l ++ x) (sym (ap (drop (length l)) m.1 ∙ drop-append_seam l m.0))

-- ---- what comes of bytes, opens and ends leaves all lookups
record Apart (a b : Box) : Type 0 where
  lookups : b.lookups ≡ a.lookups
  log : Longer a.log b.log

apart-then : (a b c : Box) → Apart a b → Apart b c → Apart a c
apart-then a b c p q = record { lookups = q.lookups ∙ p.lookups; log = more-then a.log b.log c.log p.log q.log }

noted-apart : (i at : ℕ) (x : Result Answer Refusal) (s : Option (Result Sighting Refusal)) (body : List ℕ) (l : Lent) (os : List Offer) (a : Box) → Apart a (noted i at x s body l os a)
noted-apart i at (Ok (Reply n)) s body l os a = record { lookups = refl; log = one_more a.log _ }
noted-apart i at (Ok (Heard n f)) s body l os a = record { lookups = refl; log = one_more a.log _ }
noted-apart i at (Err r) s body l os a = record { lookups = refl; log = one_more a.log _ }
noted-apart i at (Ok More) s body l os a = record { lookups = refl; log = no_more a.log }

module _ (me : Peer) where
  receiving-apart : (i : ℕ) (l : Line Who) (a : Box) (bs : List ℕ) → Apart a (receiving me i l a bs).state
  receiving-apart i l a bs =
      let o = receive_of me (link_of l) bs a.lent in
      let e = (framed_of l.framing l.buffer bs).got.answer in
      noted-apart i (l.taken + o.got.taken) o.got.answer o.got.sight (body_in e o.buffer) o.left
      (offers_in l.who e o.buffer) a

  feed-apart : (f i : ℕ) (d : Did (Line Who) (Shared Box Ask)) (bs : List ℕ) → Apart d.shared.state (feed (box.box me) i f d bs).shared.state
  unfolding feed
  feed-apart zero i d bs = record { lookups = refl; log = no_more d.shared.state.log }
  feed-apart (suc f) i d bs =
      let c : Called Who Box = receiving me i d.line d.shared.state bs in
      let one : Apart d.shared.state c.state = receiving-apart i d.line d.shared.state bs in
      cond_ind (λ (e : Did (Line Who) (Shared Box Ask)). Apart d.shared.state e.shared.state) (is_shut d.line.framing) _ _
      (λ s. record { lookups = refl; log = no_more d.shared.state.log })
      (λ s. cond_ind (λ (e : Did (Line Who) (Shared Box Ask)). Apart d.shared.state e.shared.state) c.more _ _ (λ m. one)
      (λ m. apart-then _ c.state _ one (feed-apart f i (answered (box.box me) i d.shared c) (drop c.count bs))))

  turning-apart : (i : ℕ) (b : Turn) (l : Line Who) (a : Box) → Apart a (turning me i b l a).shared
  turning-apart i (box.opens id server side addresses m) l a = record { lookups = refl; log = one_more a.log _ }
  turning-apart i box.ends l a = record { lookups = refl; log = one_more a.log _ }

  asking-more : (a : Box) (o : Ask) → Longer a.log (asking me a o).log
  asking-more a (box.put key value) = one_more a.log _
  asking-more a (box.find key) = one_more a.log _
  asking-more a (box.seen id client addresses) = one_more a.log _
  asking-more a (box.settle head id client addresses answered) = one_more a.log _
  asking-more a (box.remove id) = one_more a.log _
  asking-more a (box.doubt id) = one_more a.log _
  asking-more a (box.nearest key) = one_more a.log _
  asking-more a (box.start j key limit) = one_more a.log _
  asking-more a (box.next j) = one_more a.log _
  asking-more a (box.reply j id body view) = one_more a.log _
  asking-more a (box.reply_from i j id) = one_more a.log _
  asking-more a (box.failure j id) = one_more a.log _

  call-more : (s : World Who Box Ask) (c : Call Turn Ask) → Longer s.shared.state.log (call (box.box me) s c).shared.state.log
  unfolding call
  call-more s (hand i p) = (feed-apart (suc (length p)) i (here s i) p).log
  call-more s (does i b) = (turning-apart i b (s.lines i) s.shared.state).log
  call-more s (asks o) = asking-more s.shared.state o

  calls-more : (cs : List (Call Turn Ask)) (s : World Who Box Ask) → Longer s.shared.state.log (calls (box.box me) s cs).shared.state.log
  unfolding calls
  calls-more [] s = no_more s.shared.state.log
  calls-more (c ∷ cs) s = more-then s.shared.state.log (call (box.box me) s c).shared.state.log _ (call-more s c) (calls-more cs (call (box.box me) s c))

-- ---- a call more on a lookup
outcome-more : (cs : List LookupCall) (c : LookupCall) (s : Step) → outcome step s (cs ++ (c ∷ [])) ≡ step c (outcome step s cs).lookup
unfolding outcome
outcome-more [] c s = refl
outcome-more (d ∷ cs) c s = outcome-more cs c (step d s.lookup)

history-more : (cs : List LookupCall) (c : LookupCall) (s : Step)
    → map (λ (e : Event). e.gave) (history step s (cs ++ (c ∷ []))) ≡ map (λ (e : Event). e.gave) (history step s cs) ++ (step c (outcome step s cs).lookup ∷ [])
unfolding outcome history
history-more [] c s = refl
history-more (d ∷ cs) c s = ap (λ (l : List Step). step d s.lookup ∷ l) (history-more cs c (step d s.lookup))

-- the outcome is the last of the history
outcome-last : (cs : List LookupCall) (s : Step)
    → (before : List Step) × (s ∷ map (λ (e : Event). e.gave) (history step s cs) ≡ before ++ (outcome step s cs ∷ []))
unfolding outcome history
outcome-last [] s = ([], refl)
outcome-last (c ∷ cs) s =
    let r = outcome-last cs (step c s.lookup) in
    (s ∷ r.0, ap (λ (l : List Step). s ∷ l) r.1)

pub is-run : {E : Type 0} (me : Peer) (tells : Step → E) (x : Trace E) (l : Lookup) → l ≡ (outcome step (start_in me x) x.calls).lookup
    → x.told ≡ map tells (start_in me x ∷ map (λ (e : Event). e.gave) (history step (start_in me x) x.calls)) → IsRun me tells x l
unfolding lookup_start
is-run me tells x l e t =
    let r = outcome-last x.calls (start_in me x) in
    record {
      lookup = e;
      told = t;
      last = (map tells r.0, t ∙ ap (map tells) r.1 ∙ map-append tells r.0 (outcome step (start_in me x) x.calls ∷ []));
      claims = λ b a. claims x.table (own_id me) me.place x.key x.limit (record { bytes = b; taken = a });
    }

abbrev tells : Step → Entry
tells g = box.called (box.step_gave g)

module _ (me : Peer) (j : ℕ) where
  -- what the trace says of the lookup, if there is one
  abbrev Agrees : Option (Trace Entry) → Lookup → Type 0
  Agrees None l = Unit {0}
  Agrees (Some x) l =
      (l ≡ (outcome step (start_in me x) x.calls).lookup)
      × (x.told ≡ map tells (start_in me x ∷ map (λ (e : Event). e.gave) (history step (start_in me x) x.calls)))

  started : (b : Bool) (x : Option (Trace Entry)) (l : Lookup) (log : List Entry) (t key : List ℕ) (limit : ℕ) → Agrees x l
      → let g = lookup_start me t key limit in
      Agrees (trace_with t (drop (length log) (log ++ (tells g ∷ []))) (cond b (starts key limit) neither) x) (cond b g.lookup l)
  unfolding outcome history
  started true x l log t key limit h = (refl, drop-append_seam log (tells (lookup_start me t key limit) ∷ []))
  started false x l log t key limit h = h

  gone : (b : Bool) (x : Option (Trace Entry)) (l : Lookup) (log : List Entry) (t : List ℕ) (c : LookupCall) (g : Step) → (b ≡ true → g ≡ step c l) → Agrees x l
      → Agrees (trace_with t (drop (length log) (log ++ (tells g ∷ []))) (cond b (goes c) neither) x) (cond b g.lookup l)
  gone true None l log t c g q h = tt
  gone true (Some x) l log t c g q h =
      let s : Step = start_in me x in
      let k : g ≡ step c (outcome step s x.calls).lookup = q refl ∙ ap (step c) h.0 in
      let hist : List Step = map (λ (e : Event). e.gave) (history step s x.calls) in (
        ap (λ (y : Step). y.lookup) (k ∙ sym (outcome-more x.calls c s)),
        ap (λ (es : List Entry). x.told ++ es) (drop-append_seam log (tells g ∷ []))
            ∙ ap (λ (y : Step). x.told ++ (tells y ∷ [])) k
            ∙ ap (λ (es : List Entry). es ++ (tells (step c (outcome step s x.calls).lookup) ∷ [])) h.1
            ∙ sym (ap (λ (l : List Step). map tells (s ∷ l)) (history-more x.calls c s)
            ∙ map-append tells (s ∷ hist) (step c (outcome step s x.calls).lookup ∷ [])),
      )
  gone false x l log t c g q h = h

  -- ---- the host's other calls
  asking-agrees : (a : Box) (o : Ask) (x : Option (Trace Entry)) → Agrees x (a.lookups j)
      → Agrees (trace_with a.lent.contacts (drop (length a.log) (asking me a o).log) (part_of me j a.inbox (asks o)) x) ((asking me a o).lookups j)
  unfolding step lookup_reply lookup_failure
  asking-agrees a (box.put key value) x h = h
  asking-agrees a (box.find key) x h = h
  asking-agrees a (box.seen id client addresses) x h = h
  asking-agrees a (box.settle head id client addresses answered) x h = h
  asking-agrees a (box.remove id) x h = h
  asking-agrees a (box.doubt id) x h = h
  asking-agrees a (box.nearest key) x h = h
  asking-agrees a (box.start k key limit) x h = started (eqb j k) x (a.lookups j) a.log a.lent.contacts key limit h
  asking-agrees a (box.next k) x h =
      gone (eqb j k) x (a.lookups j) a.log a.lent.contacts go_next (next_of (a.lookups k))
      (λ e. ap (λ (n : ℕ). next_of (a.lookups n)) (sym (eqb-true j k e))) h
  asking-agrees a (box.reply k id body view) x h =
      gone (eqb j k) x (a.lookups j) a.log a.lent.contacts (go_reply (own_id me) me.place id body view) (lookup_reply me (a.lookups k) id body view)
      (λ e. ap (λ (n : ℕ). lookup_reply me (a.lookups n) id body view) (sym (eqb-true j k e))) h
  asking-agrees a (box.reply_from i k id) x h =
      gone (eqb j k) x (a.lookups j) a.log a.lent.contacts (go_reply (own_id me) me.place id (a.inbox i) (fields_of (a.inbox i)))
      (lookup_reply me (a.lookups k) id (a.inbox i) (fields_of (a.inbox i)))
      (λ e. ap (λ (n : ℕ). lookup_reply me (a.lookups n) id (a.inbox i) (fields_of (a.inbox i))) (sym (eqb-true j k e))) h
  asking-agrees a (box.failure k id) x h =
      gone (eqb j k) x (a.lookups j) a.log a.lent.contacts (go_fail (own_id me) me.place id) (lookup_failure me (a.lookups k) id)
      (λ e. ap (λ (n : ℕ). lookup_failure me (a.lookups n) id) (sym (eqb-true j k e))) h

  -- ---- any call, and any calls
  call-agrees : (s : World Who Box Ask) (c : Call Turn Ask) (x : Option (Trace Entry)) → Agrees x (s.shared.state.lookups j)
      → let w = call (box.box me) s c in
      Agrees (trace_with s.shared.state.lent.contacts (drop (length s.shared.state.log) w.shared.state.log) (part_of me j s.shared.state.inbox c) x)
      (w.shared.state.lookups j)
  unfolding call
  call-agrees s (hand i p) x h =
      subst (λ (f : ℕ → Lookup). Agrees x (f j)) (sym (feed-apart me (suc (length p)) i (here s i) p).lookups) h
  call-agrees s (does i b) x h = subst (λ (f : ℕ → Lookup). Agrees x (f j)) (sym (turning-apart me i b (s.lines i) s.shared.state).lookups) h
  call-agrees s (asks o) x h = asking-agrees s.shared.state o x h

  calls-agree : (cs : List (Call Turn Ask)) (s : World Who Box Ask) (x : Option (Trace Entry)) → Agrees x (s.shared.state.lookups j)
      → Agrees (traced me j s x cs) ((calls (box.box me) s cs).shared.state.lookups j)
  unfolding traced calls
  calls-agree [] s x h = h
  calls-agree (c ∷ cs) s x h =
      let w : World Who Box Ask = call (box.box me) s c in
      calls-agree cs w
      (trace_with s.shared.state.lent.contacts (drop (length s.shared.state.log) w.shared.state.log) (part_of me j s.shared.state.inbox c) x)
      (call-agrees s c x h)

-- ---- once there is a trace, there is one
abbrev pub There : {E : Type 0} → Option (Trace E) → Type 0
There {E} o = (x : Trace E) × (o ≡ Some x)

pub with-there : {E : Type 0} (t : List ℕ) (es : List E) (p : Part) (o : Option (Trace E)) → There o → There (trace_with t es p o)
with-there t es (starts key limit) o h = (_, refl)
with-there t es (goes c) o h = subst (λ (q : Option (Trace _)). There (trace_with t es (goes c) q)) (sym h.1) (_, refl)
with-there t es neither o h = h

pub start-there : {E : Type 0} (me : Peer) (j : ℕ) (t : List ℕ) (es : List E) (inbox : ℕ → List ℕ) (key : List ℕ) (limit : ℕ) (o : Option (Trace E))
    → There (trace_with t es (part_of me j inbox (asks (box.start j key limit))) o)
start-there me j t es inbox key limit o =
    subst (λ (b : Bool). There (trace_with t es (cond b (starts key limit) neither) o)) (sym (eq-eqb j j refl)) (_, refl)

traced-there : (me : Peer) (j : ℕ) (cs : List (Call Turn Ask)) (s : World Who Box Ask) (o : Option (Trace Entry)) → There o → There (traced me j s o cs)
unfolding traced
traced-there me j [] s o h = h
traced-there me j (c ∷ cs) s o h = traced-there me j cs (call (box.box me) s c) _ (with-there _ _ (part_of me j s.shared.state.inbox c) o h)

begins-there : (me : Peer) (j : ℕ) (key : List ℕ) (limit : ℕ) (before after : List (Call Turn Ask)) (s : World Who Box Ask) (o : Option (Trace Entry))
    → There (traced me j s o (before ++ (asks (box.start j key limit) ∷ after)))
unfolding traced
begins-there me j key limit [] after s o =
    traced-there me j after (call (box.box me) s (asks (box.start j key limit))) _ (start-there me j _ _ s.shared.state.inbox key limit o)
begins-there me j key limit (c ∷ before) after s o = begins-there me j key limit before after (call (box.box me) s c) _

pub lookups-are-runs : (me : Peer) → LookupsAreRuns me
lookups-are-runs me =
    record {
      runs = λ s cs j x e.
          let h : Agrees me j (Some x) ((calls (box.box me) s cs).shared.state.lookups j) =
          subst (λ (y : Option (Trace Entry)). Agrees me j y ((calls (box.box me) s cs).shared.state.lookups j)) e (calls-agree me j cs s None tt) in
          is-run me tells x ((calls (box.box me) s cs).shared.state.lookups j) h.0 h.1;
      begins = λ s before after j key limit. begins-there me j key limit before after s None;
      grows = λ s cs. more-since s.shared.state.log (calls (box.box me) s cs).shared.state.log (calls-more me cs s);
    }
