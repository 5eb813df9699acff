-- Over any list of calls the bytes of a connection are those of its last open, with its framing, and those of a lookup are the ones of the lookup that they
-- stand for. Assumes nothing.
use Prim.Native.Nat.{ℕ, ◌≤◌}
use mathlib.Core.Path.{◌≡◌, refl, sym, ap, ◌∙◌, subst}
use mathlib.Core.Bool.{Bool, true, false, cond}
use mathlib.Core.List.{List, [], ◌∷◌}
use lib.ListN.{length, take}
use lib.Seq.{sets}
use lib.Dec.{eqb}
use borrow.Author.Tests.{eqb-true}
use Rattle.octets.proofs.Bools.{cond_ind}
use Rattle.peer.specs.declared.Peer.{Peer}
use Rattle.message.specs.View.{fields_of}
use Rattle.lookup_runs.specs.Runs.{go_next, go_reply, go_fail, step}
use Rattle.cutting.specs.World.{World, Call, Act, takes, acts, bytes, given, call, AllFit}
use Rattle.connections.specs.declared.Conn.{Conn}
use Rattle.connections.specs.Box.{open_of}
use Rattle.flat.specs.Flat.{conn_size, peer_in, says_yes, conn_bytes, with_framing}
use Rattle.flat_lookup.specs.FlatLookup.{flat_size}
use Rattle.host_calls.specs.Hosts.{own_id, lookup_start, lookup_reply, lookup_failure}
use Rattle.host_numbers.specs.Numbers.{view_numbers, view_in}
use Rattle.lookup_in_place.specs.InPlace.{step_memory, started_memory}
use Rattle.host.specs.Host.{open_memory}
use Rattle.demands.specs.Box as box
use Rattle.demands.specs.Box.{Box, Who, Turn, Ask, Fits}
use Rattle.host_demands.specs.Calls as host
use Rattle.host_demands.specs.Calls.{Memory, History, Enough, Export, taken_by, leaves, meant, leaves_all, meant_all, world_in, history_of, Stands, start_step, next_step, reply_step, heard_step, failure_step}
use Rattle.host_demands.specs.Hosted.{Started, ReadyFor, Follows}
use Rattle.host_demands.proofs.Overwriting.{Apart, Plain, Touched, touched-length, touched-apart, touched-plain, opened-plain, open-apart}
use Rattle.host_demands.proofs.Lookups.{Wrote, step-wrote, start-wrote}
use Rattle.host_demands.proofs.Connections.{lent-enough, open-whole, open-form}
use Rattle.host_demands.proofs.Receiving.{receive-touched}
use Rattle.host_demands.proofs.Turning.{opened-memory, end-touched}
use Rattle.host_demands.proofs.Asking.{long-enough}
use Rattle.host_demands.proofs.Running.{one-call, ready-after, later-fit}

module _ (me : List ℕ) (S : Started me) where
  abbrev us : Peer
  us = peer_in me

  abbrev opened_conn : List ℕ → Bool → Bool → List ℕ → Conn
  opened_conn id server asking addresses = (open_of us id server asking addresses).conn

  -- ---- a connection's bytes but for its framing, by what it is given
  unfoldable pub origin : List ℕ → List (Act Turn) → List ℕ
  origin b [] = b
  origin b (takes x ∷ gs) = origin b gs
  origin b (acts (box.opens id server asking addresses buffer) ∷ gs) = origin (sets b 0 (conn_bytes (opened_conn id server asking addresses))) gs
  origin b (acts box.ends ∷ gs) = origin b gs

  origin-bytes : (p : List ℕ) (gs : List (Act Turn)) (b : List ℕ) → origin b (bytes p gs) ≡ origin b gs
  unfolding origin bytes
  origin-bytes [] gs b = refl
  origin-bytes (x ∷ p) gs b = origin-bytes p gs b

  origin-apart : (gs : List (Act Turn)) (b d : List ℕ) → conn_size ≤ length b → conn_size ≤ length d → Apart b d → Apart (origin b gs) (origin d gs)
  unfolding origin
  origin-apart [] b d h g a = a
  origin-apart (takes x ∷ gs) b d h g a = origin-apart gs b d h g a
  origin-apart (acts (box.opens id server asking addresses buffer) ∷ gs) b d h g a =
      λ f. ap (λ (x : List ℕ). with_framing (origin x gs) f)
      (open-apart b d (opened_conn id server asking addresses) h g (open-whole us id server asking addresses) a)
  origin-apart (acts box.ends ∷ gs) b d h g a = origin-apart gs b d h g a

  -- ---- one call
  module _ (m : Memory) (h : History) (len : Enough m) (ready : ReadyFor me (world_in m h)) where
    -- ---- connection i, after a call on connection k that leaves b there
    module _ (i k : ℕ) (b : List ℕ) (t : Touched (m.conns k) b) where
      touched-here : eqb i k ≡ true → Touched (m.conns i) b
      touched-here e = subst (λ (n : ℕ). Touched (m.conns n) b) (sym (eqb-true i k e)) t

      touched-plainly : Plain (m.conns i) → Plain (cond (eqb i k) b (m.conns i))
      touched-plainly p = go (eqb i k) refl
        where
          go : (y : Bool) → eqb i k ≡ y → Plain (cond y b (m.conns i))
          go true e = touched-plain (m.conns i) b (len.conns i) (touched-here e) p
          go false e = p

      -- that gave k what changes no origin
      touched-origin : (gs hs : List (Act Turn)) → origin (m.conns i) hs ≡ origin (m.conns i) gs
          → Apart (origin (cond (eqb i k) b (m.conns i)) gs) (origin (m.conns i) (cond (eqb i k) hs gs))
      touched-origin gs hs q = go (eqb i k) refl
        where
          go : (y : Bool) → eqb i k ≡ y → Apart (origin (cond y b (m.conns i)) gs) (origin (m.conns i) (cond y hs gs))
          go true e f =
              origin-apart gs b (m.conns i) (touched-length (m.conns i) b (len.conns i) (touched-here e)) (len.conns i)
              (touched-apart (m.conns i) b (len.conns i) (touched-here e)) f
              ∙ ap (λ (x : List ℕ). with_framing x f) (sym q)
          go false e f = refl

    pub step-apart : (c : Export) (i : ℕ) (xs : List (Call Turn Ask))
        → Apart (origin ((leaves me m c).conns i) (given i xs)) (origin (m.conns i) (given i (meant me m c ∷ xs)))
    unfolding given origin
    step-apart (host.opens k id server asking addresses buffer) i xs = go (eqb i k) refl
      where
        opened : ℕ → List ℕ
        opened n = sets (m.conns n) 0 (conn_bytes (opened_conn id (says_yes server) (says_yes asking) addresses))

        go : (y : Bool) → eqb i k ≡ y
            → Apart (origin (cond y (open_memory me (m.conns k) id server asking addresses) (m.conns i)) (given i xs))
            (origin (m.conns i) (cond y (acts (box.opens id (says_yes server) (says_yes asking) addresses buffer) ∷ given i xs) (given i xs)))
        go true e f =
            ap (λ (x : List ℕ). with_framing (origin x (given i xs)) f)
            (opened-memory me S m h len ready k id server asking addresses buffer ∙ ap opened (sym (eqb-true i k e)))
        go false e f = refl
    step-apart (host.receives k piece) i xs =
        touched-origin i k _ (receive-touched me S m h len ready k piece) (given i xs) (bytes (take (taken_by me m k piece) piece) (given i xs))
        (origin-bytes (take (taken_by me m k piece) piece) (given i xs) (m.conns i))
    step-apart (host.ends k) i xs = touched-origin i k _ (end-touched me S m h len ready k) (given i xs) (acts box.ends ∷ given i xs) refl
    step-apart (host.put key value) i xs = λ f. refl
    step-apart (host.find key) i xs = λ f. refl
    step-apart (host.seen id client addresses) i xs = λ f. refl
    step-apart (host.settle head id client addresses answered) i xs = λ f. refl
    step-apart (host.remove id) i xs = λ f. refl
    step-apart (host.doubt id) i xs = λ f. refl
    step-apart (host.nearest key) i xs = λ f. refl
    step-apart (host.lookup_starts j key limit) i xs = λ f. refl
    step-apart (host.lookup_next j) i xs = λ f. refl
    step-apart (host.lookup_replies j id body view) i xs = λ f. refl
    step-apart (host.lookup_hears k j id) i xs = λ f. refl
    step-apart (host.lookup_fails j id) i xs = λ f. refl

    pub step-plain : (c : Export) (i : ℕ) → Plain (m.conns i) → Plain ((leaves me m c).conns i)
    step-plain (host.opens k id server asking addresses buffer) i p =
        cond_ind Plain (eqb i k) _ _
        (λ e. subst Plain (sym (opened-memory me S m h len ready k id server asking addresses buffer))
        (opened-plain (m.conns k) (opened_conn id (says_yes server) (says_yes asking) addresses) (len.conns k)
        (open-whole us id (says_yes server) (says_yes asking) addresses) (open-form us id (says_yes server) (says_yes asking) addresses)))
        (λ e. p)
    step-plain (host.receives k piece) i p = touched-plainly i k _ (receive-touched me S m h len ready k piece) p
    step-plain (host.ends k) i p = touched-plainly i k _ (end-touched me S m h len ready k) p
    step-plain (host.put key value) i p = p
    step-plain (host.find key) i p = p
    step-plain (host.seen id client addresses) i p = p
    step-plain (host.settle head id client addresses answered) i p = p
    step-plain (host.remove id) i p = p
    step-plain (host.doubt id) i p = p
    step-plain (host.nearest key) i p = p
    step-plain (host.lookup_starts j key limit) i p = p
    step-plain (host.lookup_next j) i p = p
    step-plain (host.lookup_replies j id body view) i p = p
    step-plain (host.lookup_hears k j id) i p = p
    step-plain (host.lookup_fails j id) i p = p

    -- ---- lookup k, written over what stood there at first
    module _ (at : ℕ → List ℕ) (long : (j : ℕ) → flat_size ≤ length (at j)) (wrote : (j : ℕ) → Wrote (at j) (m.lookups j)) where
      lookup-here : (j k : ℕ) (x : List ℕ) → Wrote (at k) x → Wrote (at j) (cond (eqb j k) x (m.lookups j))
      lookup-here j k x w = go (eqb j k) refl
        where
          go : (y : Bool) → eqb j k ≡ y → Wrote (at j) (cond y x (m.lookups j))
          go true e = subst (λ (n : ℕ). Wrote (at n) x) (sym (eqb-true j k e)) w
          go false e = wrote j

      pub lookups-wrote : (c : Export) (j : ℕ) → Wrote (at j) ((leaves me m c).lookups j)
      unfolding lookup_start lookup_reply lookup_failure step
      lookups-wrote (host.opens k id server asking addresses buffer) j = wrote j
      lookups-wrote (host.receives k piece) j = wrote j
      lookups-wrote (host.ends k) j = wrote j
      lookups-wrote (host.put key value) j = wrote j
      lookups-wrote (host.find key) j = wrote j
      lookups-wrote (host.seen id client addresses) j = wrote j
      lookups-wrote (host.settle head id client addresses answered) j = wrote j
      lookups-wrote (host.remove id) j = wrote j
      lookups-wrote (host.doubt id) j = wrote j
      lookups-wrote (host.nearest key) j = wrote j
      lookups-wrote (host.lookup_starts k key limit) j =
          lookup-here j k _
          (subst (Wrote (at k)) (sym (long-enough me S m h len k (m.lookups k) (started_memory (m.lookups k) (start_step me m key limit))))
          (start-wrote (at k) (m.lookups k) m.lent.contacts (own_id us) us.place key limit (long k) (len.lookups k) (wrote k)))
      lookups-wrote (host.lookup_next k) j =
          lookup-here j k _
          (subst (Wrote (at k)) (sym (lent-enough flat_size (m.lookups k) (m.lookups k) (step_memory (m.lookups k) (next_step me m k)) (len.lookups k)))
          (step-wrote (at k) (m.lookups k) go_next (long k) (len.lookups k) (wrote k)))
      lookups-wrote (host.lookup_replies k id body view) j =
          lookup-here j k _
          (subst (Wrote (at k)) (sym (long-enough me S m h len k (m.lookups k) (step_memory (m.lookups k) (reply_step me m k id body view))))
          (step-wrote (at k) (m.lookups k) (go_reply (own_id us) us.place id body (view_in view)) (long k) (len.lookups k) (wrote k)))
      lookups-wrote (host.lookup_hears i k id) j =
          lookup-here j k _
          (subst (Wrote (at k)) (sym (long-enough me S m h len k (m.lookups k) (step_memory (m.lookups k) (heard_step me m i k id))))
          (step-wrote (at k) (m.lookups k) (go_reply (own_id us) us.place id (m.inbox i) (view_in (view_numbers (fields_of (m.inbox i))))) (long k) (len.lookups k) (wrote k)))
      lookups-wrote (host.lookup_fails k id) j =
          lookup-here j k _
          (subst (Wrote (at k)) (sym (long-enough me S m h len k (m.lookups k) (step_memory (m.lookups k) (failure_step me m k id))))
          (step-wrote (at k) (m.lookups k) (go_fail (own_id us) us.place id) (long k) (len.lookups k) (wrote k)))

  -- ---- any list of calls
  pub record Left (at : ℕ → List ℕ) (m : Memory) (cs : List Export) : Type 0 where
    pub apart : (i : ℕ) → Apart ((leaves_all me m cs).conns i) (origin (m.conns i) (given i (meant_all me m cs)))
    pub plain : (i : ℕ) → Plain ((leaves_all me m cs).conns i)
    pub wrote : (j : ℕ) → Wrote (at j) ((leaves_all me m cs).lookups j)

  pub all_left : (at : ℕ → List ℕ) → ((j : ℕ) → flat_size ≤ length (at j)) → (cs : List Export) (m : Memory) (w : World Who Box Ask) → Enough m → ReadyFor me w → Stands m w
      → AllFit Fits (meant_all me m cs) → ((i : ℕ) → Plain (m.conns i)) → ((j : ℕ) → Wrote (at j) (m.lookups j)) → Left at m cs
  unfolding leaves_all meant_all given origin
  all_left at long [] m w l r e f p q = record { apart = λ i g. refl; plain = p; wrote = q }
  all_left at long (c ∷ cs) m w l r e f p q =
      let r' : ReadyFor me (world_in m (history_of w)) = subst (ReadyFor me) (sym e) r in
      let one : Follows me m w c = one-call me S m w c l r e in
      let later : Left at (leaves me m c) cs =
      all_left at long cs (leaves me m c) (call (box.box us) w (meant me m c)) one.enough (ready-after me S m w c cs r f) one.stands (later-fit me S m c cs f)
      (λ i. step-plain m (history_of w) l r' c i (p i)) (lookups-wrote m (history_of w) l r' at long q c) in
      record {
        apart = λ i g. later.apart i g ∙ step-apart m (history_of w) l r' c i (meant_all me (leaves me m c) cs) g;
        plain = later.plain;
        wrote = later.wrote;
      }
