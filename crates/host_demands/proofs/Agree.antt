-- Programs that start with no records, offer the same set of records and never get 11 hold the same. Assumes nothing.
use Prim.Native.Nat.{ℕ, ◌≤◌}
use mathlib.Core.Path.{◌≡◌, refl, sym, ap, ap₂, ◌∙◌, subst}
use mathlib.Core.Logic.{◌⊎◌, inl, inr, ⊎_elim}
use mathlib.Core.Bool.{true, false}
use mathlib.Core.List.{List, [], ◌∷◌, ◌++◌, map, append_assoc, append-nil}
use native.Mathlib.Omega.{arith}
use lib.ListN.{length, take, length-take}
use Rattle.octets.proofs.Bools.{either, not-both, cond_ind}
use Rattle.limits.specs.Limits.{most_body}
use Rattle.peer.specs.declared.Peer.{Peer}
use Rattle.recipe.specs.Recipe.{is_recipe}
use Rattle.records.specs.Store.{in_form, find_of}
use Rattle.records_history.specs.History.{Offer, got}
use Rattle.records_history.specs.Agree as store
use Rattle.records_history.specs.Agree.{NoRecords, SameSet, HoldSame, Highest}
use Rattle.records_history.proofs.Holding.{held-is-found}
use Rattle.records_history.proofs.Agree.{offered-parts, offered-left, offered-right, highest-moved, agreement}
use Rattle.stream.specs.Stream as streams
use Rattle.stream.specs.Stream.{is_shut, run_of, receive_of as framed_of}
use Rattle.stream.proofs.Steps.{call-runs}
use Rattle.cutting.specs.World.{World, call, calls, AllFit}
use Rattle.cutting.proofs.Kept.{message-fits}
use Rattle.flat.specs.Flat.{peer_in}
use Rattle.connections.specs.declared.Conn.{Conn}
use Rattle.replies.specs.Lent.{Lent}
use Rattle.node.specs.Node.{Link, linked, Out, by_event}
use Rattle.host_answers.specs.Answers.{find_number}
use Rattle.demands.specs.Box as box
use Rattle.demands.specs.Box.{Entry, Box, Who, Ask, Fits, conn_of, offer_in, offers_in}
use Rattle.demands.specs.Demands as demands
use Rattle.demands.specs.Agree as inner
use Rattle.demands.specs.Agree.{Sends, Brings, Bench}
use Rattle.demands.proofs.Connections.{gate-open, whole_open}
use Rattle.demands.proofs.Receives.{let_through, runs_as}
use Rattle.demands.proofs.Agree.{offer-ind, sends-offer, benches-agree}
use Rattle.host_demands.specs.Calls as host
use Rattle.host_demands.specs.Calls.{Memory, History, Seen, Enough, Export, no_event, received_by, returns, leaves, meant, sees_of, meant_all, sees_all, world_in, history_of, entry_seen}
use Rattle.host_demands.specs.Hosted.{Started, nothing_yet, ReadyFor, Follows, FollowsAll, after, Finds}
use Rattle.host_demands.specs.Agree.{Offers, typed, sent, SomeOffers, Never11, Program, end, WasOffered, SameOffers, ProgramsAgree}
use Rattle.host_demands.proofs.Receiving.{offers-now, offers-same}
use Rattle.host_demands.proofs.Accepting.{finds-there, finds-here}
use Rattle.host_demands.proofs.Running.{one-call, all-calls, ready-after, later-fit}
use Rattle.std.specs.Prelude.{Ok, Err, Some, None, Result, Option}
use Rattle.refusal.specs.declared.Refusal.{Refusal}

-- ---- which calls offer something: puts and receives
abbrev sort : Export → ℕ
sort (host.opens i id server asking addresses buffer) = 2
sort (host.receives i piece) = 1
sort (host.ends i) = 2
sort (host.put key value) = 0
sort (host.find key) = 2
sort (host.seen id client addresses) = 2
sort (host.settle head id client addresses answered) = 2
sort (host.remove id) = 2
sort (host.doubt id) = 2
sort (host.nearest key) = 2
sort (host.lookup_starts j key limit) = 2
sort (host.lookup_next j) = 2
sort (host.lookup_replies j id body view) = 2
sort (host.lookup_hears i j id) = 2
sort (host.lookup_fails j id) = 2

kept_buffer : (x : Result (Option ℕ) Refusal) (me : Peer) (link : Link) (n : ℕ) (l : Lent) → (by_event x me link n l).buffer ≡ link.buffer
kept_buffer (Ok (Some size)) me link n l = refl
kept_buffer (Err r) me link n l = refl
kept_buffer (Ok None) me link n l = refl

-- what is added to the offers of a world is what P says of a key and a value
record Adds (P : List ℕ → List ℕ → Type 0) (before now : List Offer) : Type 0 where
  os : List Offer
  adds : now ≡ before ++ os
  there : (key v : List ℕ) → P key v → store.IsOffered key v os
  back : (key v : List ℕ) → store.IsOffered key v os → P key v

-- nothing that was seen has the number 11
unfoldable Quiet : List Seen → Type 0
Quiet [] = Unit {0}
Quiet (s ∷ ss) = (s.number ≡ 11 → ⊥) × Quiet ss

quiet-more : (ss ts : List Seen) → Quiet ss → Quiet ts → Quiet (ss ++ ts)
unfolding Quiet
quiet-more [] ts a b = b
quiet-more (s ∷ ss) ts a b = (a.0, quiet-more ss ts a.1 b)

seen-11 : (e : Entry) → inner.Gives11 e → (entry_seen e).number ≡ 11
seen-11 e (inner.message i at q) = ap (λ (x : Entry). (entry_seen x).number) q
seen-11 e (inner.typed q) = ap (λ (x : Entry). (entry_seen x).number) q

quiet-log : (es : List Entry) → Quiet (map entry_seen es) → inner.Never11 es
unfolding Quiet inner.Never11
quiet-log [] q = tt
quiet-log (e ∷ es) q = ((λ g. q.0 (seen-11 e g)), quiet-log es q.1)

module _ (me : List ℕ) (S : Started me) where
  abbrev us : Peer
  us = peer_in me

  -- ==== one call: what it adds to the offers of the world that memory stands for
  module _ (m : Memory) (h : History) (len : Enough m) (ready : ReadyFor me (world_in m h)) where
    abbrev world : World Who Box Ask
    world = world_in m h

    abbrev AddsOne : Export → Type 0
    AddsOne c = Adds (λ key v. Offers me m key v c) h.offers (call (box.box us) world (meant me m c)).shared.state.offers

    -- ---- a call that is neither
    idle : (c : Export) → sort c ≡ 2 → (call (box.box us) world (meant me m c)).shared.state.offers ≡ h.offers → AddsOne c
    unfolding store.IsOffered
    idle c e q = record { os = []; adds = q ∙ sym (append-nil h.offers); there = none; back = λ key v o. absurd o }
      where
        none : (key v : List ℕ) → Offers me m key v c → ⊥
        none key v (typed t) = let z : sort c ≡ 0 = ap sort t in omega (arith, e, z)
        none key v (sent i piece t b) = let z : sort c ≡ 1 = ap sort t in omega (arith, e, z)

    -- ---- a put
    put-adds : (k u : List ℕ) → AddsOne (host.put k u)
    unfolding call store.IsOffered
    put-adds k u = record { os = record { key = k; value = u } ∷ []; adds = refl; there = there; back = λ key v o. ⊎_elim (λ e. typed (ap₂ host.put e.0 e.1)) (λ x. absurd x) o }
      where
        there : (key v : List ℕ) → Offers me m key v (host.put k u) → ((k ≡ key) × (u ≡ v)) ⊎ ⊥
        there key v (typed t) = inl (let e : k ≡ key = cc in e, let e : u ≡ v = cc in e)
        there key v (sent i piece t b) = absurd (let z : ◌≡◌ {A = ℕ} 0 1 = ap sort t in omega arith)

    -- ---- a receive
    module _ (i : ℕ) (piece : List ℕ) where
      abbrev who : Who
      who = (world.lines i).who

      abbrev framing : streams.Out
      framing = framed_of (world.lines i).framing (world.lines i).buffer piece

      -- every way to offer something by it is such a message
      only-sent : (key v : List ℕ) → Offers me m key v (host.receives i piece) → Brings (world.lines i) piece key v
      only-sent key v (typed t) = absurd (let z : ◌≡◌ {A = ℕ} 1 0 = ap sort t in omega arith)
      only-sent key v (sent j p t b) =
          let e : j ≡ i = cc in
          let q : p ≡ piece = cc in
          subst (λ (x : ℕ). Brings (world.lines x) piece key v) e (subst (λ (x : List ℕ). Brings (world.lines j) x key v) q b)

      module _ (going : is_shut (world.lines i).framing ≡ false) where
        body-fits : (n : ℕ) → framing.got.answer ≡ Ok (Some n) → length (take n framing.buffer) ≤ most_body
        body-fits n e =
            let r : framing ≡ run_of (world.lines i).framing (world.lines i).buffer piece =
            call-runs (world.lines i).framing (world.lines i).buffer piece (ready.lines i).form (ready.lines i).room going in
            omega (
              arith,
              message-fits (world.lines i).framing (world.lines i).buffer piece n (ready.lines i).form (ap (λ (o : streams.Out). o.got.answer) (sym r) ∙ e),
              length-take n framing.buffer,
            )

        buffer-is : (received_by me m i piece).buffer ≡ framing.buffer
        buffer-is =
            ap (λ (o : Out). o.buffer)
            (let_through us (world.lines i) piece m.lent (gate-open us S.own (world.lines i) world.shared.state (ready.lines i) going ready.good)
            ∙ runs_as us (world.lines i) piece m.lent framing refl)
            ∙ kept_buffer framing.got.answer us (linked (conn_of who framing.got.framing) framing.buffer) framing.got.taken m.lent

        in-message : (n : ℕ) → framing.got.answer ≡ Ok (Some n)
            → offers_in who framing.got.answer (received_by me m i piece).buffer ≡ offer_in who (take n framing.buffer)
        in-message n e = ap₂ (λ (x : Result (Option ℕ) Refusal) (b : List ℕ). offers_in who x b) e buffer-is

        there : (key v : List ℕ) → Offers me m key v (host.receives i piece) → store.IsOffered key v (offers_in who framing.got.answer (received_by me m i piece).buffer)
        unfolding store.IsOffered
        there key v o =
            let b : Brings (world.lines i) piece key v = only-sent key v o in
            let n : ℕ = b.size in
            subst (store.IsOffered key v)
            (sym (in-message n b.whole ∙ sends-offer who (take n framing.buffer) key v (body-fits n b.whole) b.sends)) (inl (refl, refl))

        back : (key v : List ℕ) → store.IsOffered key v (offers_in who framing.got.answer (received_by me m i piece).buffer) → Offers me m key v (host.receives i piece)
        unfolding store.IsOffered
        back key v o = go framing.got.answer refl o
          where
            one : (n : ℕ) → framing.got.answer ≡ Ok (Some n) → store.IsOffered key v (offer_in who (take n framing.buffer)) → Offers me m key v (host.receives i piece)
            one n e =
                offer-ind who (take n framing.buffer) (λ os. store.IsOffered key v os → Offers me m key v (host.receives i piece)) (λ x. absurd x)
                (λ k u l s x. ⊎_elim (λ q. sent i piece refl (record {
                  size = n;
                  whole = e;
                  sends = subst (λ (y : List ℕ). Sends who (take n framing.buffer) y v) q.0 (subst (Sends who (take n framing.buffer) k) q.1 s);
                })) (λ y. absurd y) x)

            go : (x : Result (Option ℕ) Refusal) → framing.got.answer ≡ x → store.IsOffered key v (offers_in who x (received_by me m i piece).buffer) → Offers me m key v (host.receives i piece)
            go (Ok (Some n)) e y = one n e (subst (λ (b : List ℕ). store.IsOffered key v (offer_in who (take n b))) buffer-is y)
            go (Err r) e y = absurd y
            go (Ok None) e y = absurd y

        open-adds : AddsOne (host.receives i piece)
        open-adds = record { os = offers_in who framing.got.answer (received_by me m i piece).buffer; adds = offers-now me S m h len ready i piece going; there = there; back = back }

      shut-adds : is_shut (world.lines i).framing ≡ true → AddsOne (host.receives i piece)
      unfolding store.IsOffered
      shut-adds shut =
          record {
            os = [];
            adds = offers-same me S m h len ready i piece shut ∙ sym (append-nil h.offers);
            there = λ key v o. let b = only-sent key v o in not-both _ shut (whole_open _ (m.buffers i) piece b.size b.whole);
            back = λ key v o. absurd o;
          }

    adds_one : (c : Export) → AddsOne c
    unfolding call
    adds_one (host.opens i id server asking addresses buffer) = idle _ refl refl
    adds_one (host.receives i piece) = ⊎_elim (λ shut. shut-adds i piece shut) (λ going. open-adds i piece going) (either (is_shut (world.lines i).framing))
    adds_one (host.ends i) = idle _ refl refl
    adds_one (host.put k u) = put-adds k u
    adds_one (host.find k) = idle _ refl refl
    adds_one (host.seen id client addresses) = idle _ refl refl
    adds_one (host.settle head id client addresses answered) = idle _ refl refl
    adds_one (host.remove id) = idle _ refl refl
    adds_one (host.doubt id) = idle _ refl refl
    adds_one (host.nearest k) = idle _ refl refl
    adds_one (host.lookup_starts j k limit) = idle _ refl refl
    adds_one (host.lookup_next j) = idle _ refl refl
    adds_one (host.lookup_replies j id body view) = idle _ refl refl
    adds_one (host.lookup_hears i j id) = idle _ refl refl
    adds_one (host.lookup_fails j id) = idle _ refl refl

  -- ==== any calls
  abbrev AddsAll : Memory → History → List Export → Type 0
  AddsAll m h cs = Adds (λ key v. SomeOffers me key v m cs) h.offers (after me (world_in m h) m cs).shared.state.offers

  adds-all : (cs : List Export) (m : Memory) (h : History) → Enough m → ReadyFor me (world_in m h) → AllFit Fits (meant_all me m cs) → AddsAll m h cs
  unfolding meant_all calls SomeOffers store.IsOffered
  adds-all [] m h len r f = record { os = []; adds = sym (append-nil h.offers); there = λ key v o. absurd o; back = λ key v o. absurd o }
  adds-all (c ∷ cs) m h len r f =
      let w : World Who Box Ask = call (box.box us) (world_in m h) (meant me m c) in
      let one : Follows me m (world_in m h) c = one-call me S m (world_in m h) c len r refl in
      let a : AddsOne m h len r c = adds_one m h len r c in
      let later : AddsAll (leaves me m c) (history_of w) cs =
      adds-all cs (leaves me m c) (history_of w) one.enough (subst (ReadyFor me) (sym one.stands) (ready-after me S m (world_in m h) c cs r f)) (later-fit me S m c cs f) in
      record {
        os = a.os ++ later.os;
        adds = ap (λ (x : World Who Box Ask). (after me x (leaves me m c) cs).shared.state.offers) (sym one.stands) ∙ later.adds
            ∙ ap (λ (x : List Offer). x ++ later.os) a.adds ∙ append_assoc h.offers a.os later.os;
        there = λ key v o. ⊎_elim (λ x. offered-left key v a.os later.os (a.there key v x)) (λ x. offered-right key v a.os later.os (later.there key v x)) o;
        back = λ key v o. ⊎_elim (λ x. inl (a.back key v x)) (λ x. inr (later.back key v x)) (offered-parts key v a.os later.os o);
      }

  -- ==== 11
  quiet-call : (m : Memory) (c : Export) → (returns me m c ≡ 11 → ⊥) → Quiet (sees_of me m c)
  unfolding Quiet
  quiet-call m (host.opens i id server asking addresses buffer) n = (n, tt)
  quiet-call m (host.receives i piece) n = cond_ind Quiet (no_event (returns me m (host.receives i piece))) [] _ (λ e. tt) (λ e. (n, tt))
  quiet-call m (host.ends i) n = (n, tt)
  quiet-call m (host.put k u) n = (n, tt)
  quiet-call m (host.find k) n = (n, tt)
  quiet-call m (host.seen id client addresses) n = (n, tt)
  quiet-call m (host.settle head id client addresses answered) n = (n, tt)
  quiet-call m (host.remove id) n = (n, tt)
  quiet-call m (host.doubt id) n = (n, tt)
  quiet-call m (host.nearest k) n = (n, tt)
  quiet-call m (host.lookup_starts j k limit) n = (n, tt)
  quiet-call m (host.lookup_next j) n = (n, tt)
  quiet-call m (host.lookup_replies j id body view) n = (n, tt)
  quiet-call m (host.lookup_hears i j id) n = (n, tt)
  quiet-call m (host.lookup_fails j id) n = (n, tt)

  quiet_all : (cs : List Export) (m : Memory) → Never11 me m cs → Quiet (sees_all me m cs)
  unfolding Never11 sees_all Quiet
  quiet_all [] m n = tt
  quiet_all (c ∷ cs) m n = quiet-more (sees_of me m c) (sees_all me (leaves me m c) cs) (quiet-call m c n.0) (quiet_all cs (leaves me m c) n.1)

-- ==== a program is a bench
module _ (p : Program) where
  abbrev begun : World Who Box Ask
  begun = world_in p.memory nothing_yet

  follows : FollowsAll p.me p.memory begun p.calls
  follows = all-calls p.me p.started p.memory begun p.calls p.enough p.ready refl p.fit

  log-quiet : inner.Never11 (after p.me begun p.memory p.calls).shared.state.log
  log-quiet = quiet-log _ (subst Quiet (sym follows.log) (quiet_all p.me p.started p.calls p.memory p.never))

  abbrev bench : Bench
  bench =
      record {
        me = peer_in p.me;
        own = p.started.own;
        start = begun;
        ready = p.ready;
        empty = p.empty;
        did = meant_all p.me p.memory p.calls;
        fit = p.fit;
        never = log-quiet;
      }

  held-is : (end p).lent.records ≡ inner.held bench
  held-is = ap (λ (w : World Who Box Ask). w.shared.state.lent.records) follows.stands

  all_of : AddsAll p.me p.started p.memory nothing_yet p.calls
  all_of = adds-all p.me p.started p.calls p.memory nothing_yet p.enough p.ready p.fit

  offered-there : (key v : List ℕ) → WasOffered p key v → store.IsOffered key v (inner.offers bench)
  offered-there key v o = subst (store.IsOffered key v) (sym all_of.adds) (all_of.there key v o)

  offered-back : (key v : List ℕ) → store.IsOffered key v (inner.offers bench) → WasOffered p key v
  offered-back key v o = all_of.back key v (subst (store.IsOffered key v) all_of.adds o)

-- two that are offered what a third one is
through : {p q r : Program} → SameOffers p q → SameOffers p r → SameOffers q r
through s t = record { there = λ k v h. t.there k v (s.back k v h); back = λ k v h. s.there k v (t.back k v h) }

same_set : (p q : Program) → SameOffers p q → SameSet (inner.offers (bench p)) (inner.offers (bench q))
same_set p q s =
    record {
      there = λ k v o. offered-there q k v (s.there k v (offered-back p k v o));
      back = λ k v o. offered-there p k v (s.back k v (offered-back q k v o));
    }

two : (p q : Program) → SameOffers p q → HoldSame (end p).lent.records (end q).lent.records
two p q s =
    subst (λ (x : List ℕ). HoldSame x (end q).lent.records) (sym (held-is p))
    (subst (HoldSame (inner.held (bench p))) (sym (held-is q)) (benches-agree.two (bench p) (bench q) (same_set p q s)))

-- memory stays such that calls may go on
abbrev now : Program → History
now p = history_of (after p.me (begun p) p.memory p.calls)

still : (p : Program) → ReadyFor p.me (world_in (end p) (now p))
still p = subst (ReadyFor p.me) (sym (follows p).stands) (follows p).ready

find-number : (t u key : List ℕ) → in_form t ≡ true → in_form u ≡ true → (g : Option (List ℕ)) → got t key ≡ g → got u key ≡ g → find_number (find_of t key) ≡ find_number (find_of u key)
find-number t u key f h None a b = ap find_number (held-is-found.missing t key f a ∙ sym (held-is-found.missing u key h b))
find-number t u key f h (Some v) a b = ap find_number (held-is-found.found t key v f a).2 ∙ sym (ap find_number (held-is-found.found u key v h b).2)

find : (p q : Program) → SameOffers p q → (key : List ℕ) → returns p.me (end p) (host.find key) ≡ returns q.me (end q) (host.find key)
find p q s key = find-number (end p).lent.records (end q).lent.records key (still p).good.records (still q).good.records _ ((two p q s).found key) refl

found : (p q : Program) → SameOffers p q → (key v : List ℕ) → Finds p.me (end p) key v → Finds q.me (end q) key v
found p q s key v f =
    finds-here q.me q.started (end q) (now q) (follows q).enough (still q) key v
    (subst (λ (x : List ℕ). demands.Finds (peer_in q.me) x key v) (sym (held-is q))
    (benches-agree.found (bench p) (bench q) (same_set p q s) key v
    (subst (λ (x : List ℕ). demands.Finds (peer_in p.me) x key v) (held-is p) (finds-there p.me p.started (end p) (now p) (follows p).enough (still p) key v f))))

highest : (p : Program) (key : List ℕ) → Highest is_recipe key (WasOffered p key) (got (end p).lent.records key)
highest p key =
    subst (λ (x : List ℕ). Highest is_recipe key (WasOffered p key) (got x key)) (sym (held-is p))
    (highest-moved is_recipe key _ _ (offered-back p key) (offered-there p key) _ (benches-agree.highest (bench p) key))

pub programs-agree : ProgramsAgree
programs-agree =
    record {
      two = two;
      find = find;
      found = found;
      all = λ p s i j. two (p i) (p j) (through (s i) (s j));
      highest = highest;
      begin = λ m c. subst NoRecords (sym c.records) (agreement.begin c.record_bytes);
    }
