-- What a refused call leaves of the connections: its own as it was, or shut; all others as they were. Assumes nothing.
use Prim.Native.Nat.{ℕ, ◌≤◌, ◌<◌}
use mathlib.Core.Path.{◌≡◌, refl, sym, ap, ◌∙◌, subst}
use mathlib.Core.Logic.{inl, inr, ⊎_elim}
use mathlib.Core.Bool.{Bool, true, false, cond, not}
use mathlib.Core.List.{List}
use native.Mathlib.Omega.{arith}
use lib.ListN.{length}
use lib.Dec.{eqb, ltb, leb}
use borrow.Author.Tests.{eq-eqb, ne_eqb, le-leb, lt-leb, ltb-false}
use Rattle.octets.proofs.Bools.{cond_ind, cond_yes, cond_no, or_l, or_r, or_off, or-fails, all_head, all_rest}
use Rattle.limits.specs.Limits.{most_body, least_reply}
use Rattle.refusal.specs.declared.Refusal.{Refusal}
use Rattle.refusal.specs.declared.Refusal.TheVariants as no
use Rattle.refusal.specs.Refusal.{number_of}
use Rattle.peer.specs.declared.Peer.{Peer}
use Rattle.contacts.specs.Form.{in_form as contacts_form}
use Rattle.records.specs.Store.{in_form as records_form}
use Rattle.stream.specs.declared.Held.TheVariants.{Nothing, One, Two}
use Rattle.stream.specs.declared.Framing.{Framing}
use Rattle.stream.specs.declared.Framing.TheVariants.{Shut, Prefix, Body}
use Rattle.stream.specs.declared.Ended as stream_end
use Rattle.stream.specs.Stream as streams
use Rattle.stream.specs.Stream.{is_shut, in_form, end_in, end_of, run_of}
use Rattle.stream.proofs.Steps.{call-runs}
use Rattle.connections.specs.declared.Conn.{Conn}
use Rattle.connections.specs.declared.Ended.{Ended}
use Rattle.connections.specs.declared.Opened.{Opened}
use Rattle.connections.specs.Box as conns
use Rattle.connections.specs.Box.{own_fits, open_of, conn_form, end_conn}
use Rattle.cutting.specs.World.{set_at}
use Rattle.node.specs.declared.Answer.{Answer}
use Rattle.node.specs.declared.Answer.TheVariants.{Reply, Heard, More}
use Rattle.replies.specs.Lent.{Lent}
use Rattle.node.specs.Node.{linked, Out, by_event, unless, gate_of, taken_of, receive_of}
use Rattle.node_promises.specs.Promises as promises
use Rattle.node_promises.specs.Promises.{Refuses}
use Rattle.flat.specs.Flat.{peer_size, conn_size, peer_in, conn_in, says_yes, with_framing}
use Rattle.host_numbers.specs.Numbers.{told_code}
use Rattle.host_state.specs.State.{changes_nothing, ending_code, ended_memory, answer_number, answer_framing, received_memory}
use Rattle.host.specs.Host.{lent, lent_both}
use Rattle.demands.proofs.Leaving.{refused-leaves}
use Rattle.demands.proofs.Refusals.{Raised, AnswerRaised, run-raised, event-raised}
use Rattle.host_demands.specs.Calls as host
use Rattle.host_demands.specs.Calls.{Memory, Export, returns, leaves, received_by, taken_by}
use Rattle.host_demands.specs.Hosted.{Early, Late, ConnKept, ShutAtMost, NotOn, RefusedShuts}
use Rattle.host_demands.proofs.Connections.{open-reads, both-enough}
use Rattle.std.specs.Prelude.{Ok, Err, Result, ⊤}

-- ---- numbers
early-nothing : (r : Refusal) → Early (number_of r) → changes_nothing r ≡ true
unfolding changes_nothing
early-nothing r = ⊎_elim (λ h. or_l _ _ (le-leb (number_of r) 2 h)) (λ h. or_r (leb (number_of r) 2) _ (eq-eqb (number_of r) 12 h))

late-changes : (r : Refusal) → 2 < number_of r → (number_of r ≡ 12 → ⊥) → changes_nothing r ≡ false
unfolding changes_nothing
late-changes r h k = or-fails _ _ (lt-leb (number_of r) 2 h) (ne_eqb (number_of r) 12 k)

early-number : (r : Refusal) → promises.Early r → Early (number_of r)
early-number r =
    ⊎_elim (λ e. inl (omega (arith, ap number_of e)))
    (⊎_elim (λ e. inl (omega (arith, ap number_of e))) (⊎_elim (λ e. inl (omega (arith, ap number_of e))) (λ e. inr (ap number_of e))))

-- ---- a receive that gets past the gate is refused with 3 to 11
record Passes (me : Peer) (c : Conn) (m : List ℕ) : Type 0 where
  form : conn_form me c ≡ true
  room : most_body ≤ length m
  going : is_shut c.framing ≡ false

shut-gate : {X : Type 0} (s : Refusal) → ◌≡◌ {A = Result ⊤ Refusal} (Err s) (Ok tt) → X
shut-gate s e = absurd (let z : ◌≡◌ {A = ℕ} 0 1 = cc in omega arith)

true-not : (b : Bool) → not b ≡ false → b ≡ true
true-not true e = refl
true-not false e = sym e

module _ (me : Peer) (c : Conn) (m bs : List ℕ) (l : Lent) where
  passes : gate_of me (linked c m) l ≡ Ok tt → Passes me c m
  unfolding gate_of
  passes =
      cond_ind P (not (contacts_form l.contacts me.place)) _ _ (λ h. shut-gate no.OutOfForm)
      (λ h. cond_ind P (not (records_form l.records)) _ _ (λ h. shut-gate no.OutOfForm)
      (λ h. cond_ind P (not (conn_form me c)) _ _ (λ h. shut-gate no.OutOfForm)
      (λ f. cond_ind P (ltb (length m) most_body) _ _ (λ h. shut-gate no.SmallBuffer)
      (λ r. cond_ind P (ltb (length l.reply) least_reply) _ _ (λ h. shut-gate no.SmallBuffer)
      (λ h. cond_ind P (is_shut c.framing) _ _ (λ h. shut-gate no.Shut)
      (λ g. cond_ind P (not (own_fits me)) _ _ (λ h. shut-gate no.BadPeer)
      (λ h e. record { form = true-not _ f; room = ltb-false (length m) most_body r; going = g })))))))
    where
      P : Result ⊤ Refusal → Type 0
      P g = g ≡ Ok tt → Passes me c m

  framing-form : Passes me c m → in_form c.framing ≡ true
  unfolding conn_form
  framing-form p = all_head _ _ (all_rest _ _ (all_rest _ _ (sym (or_off _ _ p.going) ∙ p.form)))

  past-gate : gate_of me (linked c m) l ≡ Ok tt → AnswerRaised (receive_of me (linked c m) bs l).got.answer
  unfolding receive_of taken_of
  past-gate e =
      let p = passes e in
      let o : streams.Out = run_of c.framing m bs in
      subst (λ (g : Result ⊤ Refusal). AnswerRaised (unless g (linked c m) l (taken_of me (linked c m) bs l)).got.answer) (sym e)
      (subst (λ (o : streams.Out). AnswerRaised (by_event o.got.answer me (linked (conns.with_framing c o.got.framing) o.buffer) o.got.taken l).got.answer)
      (sym (call-runs c.framing m bs (framing-form p) p.room p.going))
      (event-raised me o.got.answer (linked (conns.with_framing c o.got.framing) o.buffer) o.got.taken l (run-raised bs c.framing m)))

-- ---- memory too short: 0, and nothing changes
both-early : {A : Type 0} (me conn : List ℕ) (x y : A) (n : ℕ) → Early (lent_both me conn 0 n) → (Early n → y ≡ x) → lent_both me conn x y ≡ x
unfolding lent
both-early me conn x y n h k = go (ltb (length me) peer_size) (ltb (length conn) conn_size) h
  where
    go : (p q : Bool) → Early (cond p 0 (cond q 0 n)) → cond p x (cond q x y) ≡ x
    go true q h = refl
    go false true h = refl
    go false false h = k h

both-late : {A : Type 0} (me conn : List ℕ) (x y z : A) (n : ℕ) → Late (lent_both me conn 0 n) → (Late n → y ≡ z) → lent_both me conn x y ≡ z
unfolding lent
both-late me conn x y z n h k = go (ltb (length me) peer_size) (ltb (length conn) conn_size) h
  where
    go : (p q : Bool) → Late (cond p 0 (cond q 0 n)) → cond p x (cond q x y) ≡ z
    go true q h = absurd (omega (arith, h.above))
    go false true h = absurd (omega (arith, h.above))
    go false false h = k h

-- what is set at i is there, and nowhere else
at_own : {A : Type 0} (i : ℕ) (x : A) (f : ℕ → A) → set_at f i x i ≡ x
at_own i x f = cond_yes (eqb i i) x (f i) (eq-eqb i i refl)

elsewhere : {A : Type 0} (i k : ℕ) (x : A) (f : ℕ → A) → (i ≡ k → ⊥) → set_at f k x i ≡ f i
elsewhere i k x f h = cond_no (eqb i k) x (f i) (ne_eqb i k h)

module _ (me : List ℕ) (m : Memory) (i : ℕ) where
  abbrev us : Peer
  us = peer_in me

  abbrev conn : List ℕ
  conn = m.conns i

  -- ---- a receive
  module _ (piece : List ℕ) where
    abbrev o : Out
    o = received_by me m i piece

    abbrev n : ℕ
    n = answer_number o.got.answer

    refuses : (r : Refusal) → o.got.answer ≡ Err r → Refuses us (linked (conn_in conn) (m.buffers i)) piece m.lent r
    refuses r = (refused-leaves us).receive (linked (conn_in conn) (m.buffers i)) piece m.lent r

    abbrev gate : Result ⊤ Refusal
    gate = gate_of us (linked (conn_in conn) (m.buffers i)) m.lent

    record Left : Type 0 where
      taken : o.got.taken ≡ 0
      same : received_memory conn o.got ≡ conn
      buffer : o.buffer ≡ m.buffers i

    answered-early : Early n → Left
    answered-early = go o.got.answer refl
      where
        stays : (r : Refusal) → o.got.answer ≡ Err r → Early (number_of r) → (g : Result ⊤ Refusal) → gate ≡ g → Left
        stays r e h (Err s) q =
            let c = ((refuses r e).closed s q).2 in
            record {
              taken = c.taken;
              same = ap (answer_framing conn o.got.conn.framing) e ∙ cond_yes (changes_nothing r) _ _ (early-nothing r h);
              buffer = c.buffer;
            }
        stays r e h (Ok tt) q =
            let a : Raised r = subst AnswerRaised e (past-gate us (conn_in conn) (m.buffers i) piece m.lent q) in
            ⊎_elim {A = number_of r ≤ 2} {B = number_of r ≡ 12} (λ l. absurd (omega (arith, l, a.0))) (λ l. absurd (omega (arith, l, a.1))) h

        go : (x : Result Answer Refusal) → o.got.answer ≡ x → Early (answer_number x) → Left
        go (Ok (Reply l)) e h = ⊎_elim (λ z. absurd (omega (arith, z))) (λ z. absurd (omega (arith, z))) h
        go (Ok (Heard l f)) e h = ⊎_elim (λ z. absurd (omega (arith, z))) (λ z. absurd (omega (arith, z))) h
        go (Err r) e h = stays r e h gate refl
        go (Ok More) e h = ⊎_elim (λ z. absurd (omega (arith, z))) (λ z. absurd (omega (arith, z))) h

    answered-late : Late n → received_memory conn o.got ≡ with_framing conn Shut
    answered-late = go o.got.answer refl
      where
        shuts : (r : Refusal) → o.got.answer ≡ Err r → Late (number_of r) → (g : Result ⊤ Refusal) → gate ≡ g → received_memory conn o.got ≡ with_framing conn Shut
        shuts r e h (Err s) q = ⊎_elim (λ l. absurd (omega (arith, l, h.above))) (λ l. absurd (h.other l)) (early-number r ((refuses r e).closed s q).1)
        shuts r e h (Ok tt) q =
            ap (answer_framing conn o.got.conn.framing) e
            ∙ cond_no (changes_nothing r) _ _ (late-changes r h.above h.other)
            ∙ ap (λ (c : Conn). with_framing conn c.framing) ((refuses r e).shuts q)

        go : (x : Result Answer Refusal) → o.got.answer ≡ x → Late (answer_number x) → received_memory conn o.got ≡ with_framing conn Shut
        go (Ok (Reply l)) e h = absurd (omega (arith, h.refusal))
        go (Ok (Heard l f)) e h = absurd (omega (arith, h.refusal))
        go (Err r) e h = shuts r e h gate refl
        go (Ok More) e h = absurd (omega (arith, h.refusal))

    takes-nothing : Early (returns me m (host.receives i piece)) → taken_by me m i piece ≡ 0
    takes-nothing h = both-early me conn 0 o.got.taken n h (λ l. (answered-early l).taken)

    receive-shuts : ShutAtMost me m i (host.receives i piece)
    receive-shuts =
        record {
          early = λ h. record {
            conn = at_own i _ m.conns ∙ both-early me conn conn (received_memory conn o.got) n h (λ l. (answered-early l).same);
            buffer = at_own i _ m.buffers ∙ both-early me conn (m.buffers i) o.buffer n h (λ l. (answered-early l).buffer);
            taken = at_own i _ m.taken ∙ omega (arith, takes-nothing h);
          };
          late = λ h. at_own i _ m.conns ∙ both-late me conn conn (received_memory conn o.got) (with_framing conn Shut) n h answered-late;
        }

  -- ---- an end
  record EndLeft (e : Ended) : Type 0 where
    early : Early (ending_code e.answer) → ended_memory conn e ≡ conn
    late : Late (ending_code e.answer) → ended_memory conn e ≡ with_framing conn Shut

  out-of-form : (c : Conn) → EndLeft (record { conn = c; answer = Err no.OutOfForm })
  unfolding changes_nothing
  out-of-form c = record { early = λ h. refl; late = λ h. absurd (omega (arith, h.above)) }

  inside : (f : Framing) → EndLeft (record { conn = conns.with_framing (conn_in conn) (end_in f).framing; answer = (end_in f).answer })
  unfolding changes_nothing
  inside Shut = record { early = λ h. refl; late = λ h. absurd (omega (arith, h.above)) }
  inside (Prefix Nothing) = record { early = λ h. ⊎_elim (λ z. absurd (omega (arith, z))) (λ z. absurd (omega (arith, z))) h; late = λ h. refl }
  inside (Prefix (One a)) = record { early = λ h. ⊎_elim (λ z. absurd (omega (arith, z))) (λ z. absurd (omega (arith, z))) h; late = λ h. refl }
  inside (Prefix (Two a b)) = record { early = λ h. ⊎_elim (λ z. absurd (omega (arith, z))) (λ z. absurd (omega (arith, z))) h; late = λ h. refl }
  inside (Body want have) = record { early = λ h. ⊎_elim (λ z. absurd (omega (arith, z))) (λ z. absurd (omega (arith, z))) h; late = λ h. refl }

  end-left : EndLeft (end_conn us (conn_in conn))
  unfolding end_conn end_of
  end-left =
      cond_ind EndLeft (conn_form us (conn_in conn)) _ _
      (λ e. cond_ind (λ (x : stream_end.Ended). EndLeft (record { conn = conns.with_framing (conn_in conn) x.framing; answer = x.answer })) (not (in_form (conn_in conn).framing)) _ _
      (λ q. out-of-form (conns.with_framing (conn_in conn) (conn_in conn).framing)) (λ q. inside (conn_in conn).framing))
      (λ e. out-of-form (conn_in conn))

  end-shuts : ShutAtMost me m i (host.ends i)
  end-shuts =
      let e : Ended = end_conn us (conn_in conn) in
      record {
        early = λ h. record {
          conn = at_own i _ m.conns ∙ both-early me conn conn (ended_memory conn e) (ending_code e.answer) h end-left.early;
          buffer = at_own i (m.buffers i) m.buffers;
          taken = at_own i (m.taken i) m.taken;
        };
        late = λ h. at_own i _ m.conns ∙ both-late me conn conn (ended_memory conn e) (with_framing conn Shut) (ending_code e.answer) h end-left.late;
      }

  -- ---- an open
  open-shuts : (id : List ℕ) (server asking : ℕ) (addresses buffer : List ℕ) → peer_size ≤ length me → conn_size ≤ length conn
      → returns me m (host.opens i id server asking addresses buffer) < 64 → (conn_in ((leaves me m (host.opens i id server asking addresses buffer)).conns i)).framing ≡ Shut
  open-shuts id server asking addresses buffer h l z =
      let w : Opened = open_of us id (says_yes server) (says_yes asking) addresses in
      ap (λ (x : List ℕ). (conn_in x).framing) (at_own i _ m.conns ∙ both-enough me conn conn _ h l)
      ∙ ap (λ (c : Conn). c.framing) (open-reads us conn id (says_yes server) (says_yes asking) addresses l)
      ∙ go w.told refl (subst (λ (k : ℕ). k < 64) (both-enough me conn 0 (told_code w.told) h l) z)
    where
      go : (x : Result ⊤ Refusal) → (open_of us id (says_yes server) (says_yes asking) addresses).told ≡ x → told_code x < 64
          → (open_of us id (says_yes server) (says_yes asking) addresses).conn.framing ≡ Shut
      go (Ok tt) e k = absurd (omega (arith, k))
      go (Err r) e k = ((refused-leaves us).values.opens us id (says_yes server) (says_yes asking) addresses r e).0

-- ---- other connections
others-stay : (me : List ℕ) (m : Memory) (c : Export) (i : ℕ) → NotOn i c → ConnKept m (leaves me m c) i
others-stay me m (host.opens k id server asking addresses buffer) i h =
    let d : i ≡ k → ⊥ = λ e. h.opens id server asking addresses buffer (ap (λ (j : ℕ). host.opens j id server asking addresses buffer) (sym e)) in
    record { conn = elsewhere i k _ m.conns d; buffer = elsewhere i k _ m.buffers d; taken = elsewhere i k _ m.taken d }
others-stay me m (host.receives k piece) i h =
    let d : i ≡ k → ⊥ = λ e. h.receives piece (ap (λ (j : ℕ). host.receives j piece) (sym e)) in
    record { conn = elsewhere i k _ m.conns d; buffer = elsewhere i k _ m.buffers d; taken = elsewhere i k _ m.taken d }
others-stay me m (host.ends k) i h =
    let d : i ≡ k → ⊥ = λ e. h.ends (ap (λ (j : ℕ). host.ends j) (sym e)) in
    record { conn = elsewhere i k _ m.conns d; buffer = elsewhere i k _ m.buffers d; taken = elsewhere i k _ m.taken d }
others-stay me m (host.put key value) i h = record { conn = refl; buffer = refl; taken = refl }
others-stay me m (host.find key) i h = record { conn = refl; buffer = refl; taken = refl }
others-stay me m (host.seen id client addresses) i h = record { conn = refl; buffer = refl; taken = refl }
others-stay me m (host.settle head id client addresses answered) i h = record { conn = refl; buffer = refl; taken = refl }
others-stay me m (host.remove id) i h = record { conn = refl; buffer = refl; taken = refl }
others-stay me m (host.doubt id) i h = record { conn = refl; buffer = refl; taken = refl }
others-stay me m (host.nearest key) i h = record { conn = refl; buffer = refl; taken = refl }
others-stay me m (host.lookup_starts j key limit) i h = record { conn = refl; buffer = refl; taken = refl }
others-stay me m (host.lookup_next j) i h = record { conn = refl; buffer = refl; taken = refl }
others-stay me m (host.lookup_replies j id body view) i h = record { conn = refl; buffer = refl; taken = refl }
others-stay me m (host.lookup_hears k j id) i h = record { conn = refl; buffer = refl; taken = refl }
others-stay me m (host.lookup_fails j id) i h = record { conn = refl; buffer = refl; taken = refl }

pub refused-shuts : (me : List ℕ) → RefusedShuts me
refused-shuts me =
    record {
      receives = receive-shuts me;
      takes = takes-nothing me;
      ends = end-shuts me;
      opens = open-shuts me;
      others = others-stay me;
    }
