-- A call that returns a refusal's number leaves contacts, records, reply and lookups as they were, whatever the memory. Assumes nothing.
use Prim.Native.Nat.{ℕ, ◌<◌}
use mathlib.Core.Path.{◌≡◌, refl, sym, ap, ◌∙◌, subst}
use mathlib.Core.Bool.{Bool, true, false, cond}
use mathlib.Core.List.{List}
use native.Mathlib.Omega.{arith}
use lib.ListN.{length}
use lib.Seq.{sets}
use lib.Dec.{eqb, ltb}
use borrow.Author.Tests.{eqb-true, eq-eqb, le-ltb}
use Rattle.octets.proofs.Bools.{cond_yes, cond_no, or-fails}
use Rattle.peer.specs.declared.Peer.{Peer}
use Rattle.records.specs.Store.{put_answer, put_after}
use Rattle.lookup.specs.Value.{Step}
use Rattle.lookup.specs.declared.Answer as lookup
use Rattle.lookup.specs.declared.Answer.TheVariants as steps
use Rattle.lookup.specs.Lookup.{no_lookup}
use Rattle.node.specs.declared.Answer.{Answer}
use Rattle.node.specs.declared.Answer.TheVariants.{Reply, Heard, More}
use Rattle.replies.specs.Lent.{with_contacts, with_records}
use Rattle.node.specs.Node.{linked, Out}
use Rattle.node_promises.specs.Promises.{Unchanged}
use Rattle.flat.specs.Flat.{peer_size, conn_size, peer_in, conn_in, says_yes}
use Rattle.flat_lookup.specs.FlatLookup.{flat_size, lookup_in, lookup_bytes}
use Rattle.host_calls.specs.Hosts.{own_id, seen_of, seen_after, settle_of, settle_after, remove_of, remove_after, doubt_of, doubt_after, lookup_start}
use Rattle.contact_calls.specs.Calls.{seen_number, settle_number, remove_number, doubt_number}
use Rattle.host_answers.specs.Answers.{put_number}
use Rattle.host_state.specs.State.{answer_number}
use Rattle.lookup_in_place.specs.InPlace.{step_memory, is_refused}
use Rattle.host_steps.specs.Steps.{step_number}
use Rattle.host.specs.Host.{lent, lent_both, too_short}
use Rattle.demands.specs.Demands.{RefusedLeaves}
use Rattle.demands.proofs.Leaving.{refused-leaves}
use Rattle.host_demands.specs.Calls as host
use Rattle.host_demands.specs.Calls.{Memory, returns, received_by, start_step, next_step, reply_step, heard_step, failure_step}
use Rattle.host_demands.specs.Hosted.{Keeps, RefusedKeeps, RefusedStart}
use Rattle.lookup_in_place.proofs.ReadBack.{start-reads}
use Rattle.std.specs.Prelude.{Ok, Err, Result, ⊤}
use Rattle.refusal.specs.declared.Refusal.{Refusal}

-- memory too short changes nothing; else what the inner call says
if-short : {A : Type 0} (b : Bool) (x y : A) (n : ℕ) → cond b 0 n < 64 → (n < 64 → y ≡ x) → cond b x y ≡ x
if-short true x y n h k = refl
if-short false x y n h k = k h

lent-kept : {A : Type 0} (size : ℕ) (s : List ℕ) (x y : A) (n : ℕ) → lent size s 0 n < 64 → (n < 64 → y ≡ x) → lent size s x y ≡ x
unfolding lent
lent-kept size s x y n h k = if-short (ltb (length s) size) x y n h k

both-kept : {A : Type 0} (me conn : List ℕ) (x y : A) (n : ℕ) → lent_both me conn 0 n < 64 → (n < 64 → y ≡ x) → lent_both me conn x y ≡ x
both-kept me conn x y n h k = lent-kept peer_size me x (lent conn_size conn x y) (lent conn_size conn 0 n) h (λ g. lent-kept conn_size conn x y n g k)

module _ (me : List ℕ) (m : Memory) where
  abbrev us : Peer
  us = peer_in me

  abbrev leaving : RefusedLeaves us
  leaving = refused-leaves us

  -- ---- receive
  module _ (i : ℕ) (piece : List ℕ) where
    abbrev o : Out
    o = received_by me m i piece

    unchanged : answer_number o.got.answer < 64 → Unchanged m.lent o
    unchanged h = go o.got.answer refl h
      where
        go : (x : Result Answer Refusal) → o.got.answer ≡ x → answer_number x < 64 → Unchanged m.lent o
        go (Ok (Reply n)) e l = absurd (omega (arith, l))
        go (Ok (Heard n f)) e l = absurd (omega (arith, l))
        go (Err r) e l = (leaving.receive (linked (conn_in (m.conns i)) (m.buffers i)) piece m.lent r e).unchanged
        go (Ok More) e l = absurd (omega (arith, l))

    receive-keeps : returns me m (host.receives i piece) < 64 → Keeps me m (host.receives i piece)
    receive-keeps h =
        record {
          lent = both-kept me (m.conns i) m.lent o.left (answer_number o.got.answer) h (λ l. (unchanged l).left);
          lookups = λ j e. refl;
        }

  -- ---- records and contacts
  put-kept : (key value : List ℕ) → put_number (put_answer m.lent.records key value) < 64 → put_after m.lent.records key value ≡ m.lent.records
  put-kept key value h = go (put_answer m.lent.records key value) refl h
    where
      go : (x : Result ⊤ Refusal) → put_answer m.lent.records key value ≡ x → put_number x < 64 → put_after m.lent.records key value ≡ m.lent.records
      go (Ok tt) e l = absurd (omega (arith, l))
      go (Err r) e l = leaving.put m.lent.records key value r e

  seen-kept : (id : List ℕ) (client : Bool) (addresses : List ℕ) → seen_number (seen_of us m.lent.contacts id client addresses) < 64
      → seen_after us m.lent.contacts id client addresses ≡ m.lent.contacts
  seen-kept id client addresses = leaving.calls.sees us m.lent.contacts id client addresses

  settle-kept : (head id : List ℕ) (client : Bool) (addresses : List ℕ) (answered : Bool) → settle_number (settle_of us m.lent.contacts head id client addresses answered) < 64
      → settle_after us m.lent.contacts head id client addresses answered ≡ m.lent.contacts
  settle-kept head id client addresses answered = leaving.calls.settles us m.lent.contacts head id client addresses answered

  remove-kept : (id : List ℕ) → remove_number (remove_of us m.lent.contacts id) < 64 → remove_after us m.lent.contacts id ≡ m.lent.contacts
  remove-kept id = leaving.calls.removes us m.lent.contacts id

  doubt-kept : (id : List ℕ) → doubt_number (doubt_of us m.lent.contacts id) < 64 → doubt_after us m.lent.contacts id ≡ m.lent.contacts
  doubt-kept id = leaving.calls.doubts us m.lent.contacts id

  -- ---- lookups
  step_kept : (x : List ℕ) (s : Step) → step_number s.answer < 64 → step_memory x s ≡ x
  step_kept x s h = go s.answer h
    where
      go : (a : Result lookup.Answer Refusal) → step_number a < 64 → cond (is_refused a) x (sets x 0 (lookup_bytes s.lookup)) ≡ x
      go (Err r) l = refl
      go (Ok (steps.Complete n)) l = absurd (omega (arith, l))
      go (Ok (steps.CutShort n)) l = absurd (omega (arith, l))
      go (Ok steps.Wait) l = absurd (omega (arith, l))
      go (Ok (steps.Ask i)) l = absurd (omega (arith, l))
      go (Ok steps.Going) l = absurd (omega (arith, l))

  put_back : (j : ℕ) (x : List ℕ) → x ≡ m.lookups j → (k : ℕ) → cond (eqb k j) x (m.lookups k) ≡ m.lookups k
  put_back j x e k = go (eqb k j) refl
    where
      go : (b : Bool) → eqb k j ≡ b → cond b x (m.lookups k) ≡ m.lookups k
      go true q = e ∙ ap m.lookups (sym (eqb-true k j q))
      go false q = refl

  -- a start
  other-lookup : (j : ℕ) (x key : List ℕ) (limit k : ℕ) → (host.lookup_starts j key limit ≡ host.lookup_starts k key limit → ⊥) → cond (eqb k j) x (m.lookups k) ≡ m.lookups k
  other-lookup j x key limit k e = go (eqb k j) refl
    where
      go : (b : Bool) → eqb k j ≡ b → cond b x (m.lookups k) ≡ m.lookups k
      go true q = absurd (e (ap (λ (n : ℕ). host.lookup_starts n key limit) (sym (eqb-true k j q))))
      go false q = refl

  emptied : (key : List ℕ) (limit : ℕ) → step_number (start_step me m key limit).answer < 64 → (start_step me m key limit).lookup ≡ no_lookup
  emptied key limit h = go (start_step me m key limit).answer refl h
    where
      go : (a : Result lookup.Answer Refusal) → (start_step me m key limit).answer ≡ a → step_number a < 64 → (start_step me m key limit).lookup ≡ no_lookup
      go (Err r) e l = leaving.empties m.lent.contacts key limit r e
      go (Ok (steps.Complete n)) e l = absurd (omega (arith, l))
      go (Ok (steps.CutShort n)) e l = absurd (omega (arith, l))
      go (Ok steps.Wait) e l = absurd (omega (arith, l))
      go (Ok (steps.Ask i)) e l = absurd (omega (arith, l))
      go (Ok steps.Going) e l = absurd (omega (arith, l))

pub refused-start : (me : List ℕ) → RefusedStart me
unfolding too_short lookup_start
refused-start me m j key limit room long h =
    let enough : too_short me (m.lookups j) ≡ false = or-fails _ _ (le-ltb (length me) peer_size room) (le-ltb (length (m.lookups j)) flat_size long) in
    ap lookup_in (cond_yes (eqb j j) _ _ (eq-eqb j j refl) ∙ cond_no (too_short me (m.lookups j)) _ _ enough)
    ∙ start-reads (m.lookups j) m.lent.contacts (own_id (peer_in me)) (peer_in me).place key limit long
    ∙ emptied me m key limit (subst (λ (n : ℕ). n < 64) (cond_no (too_short me (m.lookups j)) _ _ enough) h)

pub refused-keeps : (me : List ℕ) → RefusedKeeps me
refused-keeps me m (host.opens i id server asking addresses buffer) h = record { lent = refl; lookups = λ j e. refl }
refused-keeps me m (host.receives i piece) h = receive-keeps me m i piece h
refused-keeps me m (host.ends i) h = record { lent = refl; lookups = λ j e. refl }
refused-keeps me m (host.put key value) h = record { lent = ap (with_records m.lent) (put-kept me m key value h); lookups = λ j e. refl }
refused-keeps me m (host.find key) h = record { lent = refl; lookups = λ j e. refl }
refused-keeps me m (host.seen id client addresses) h =
    record {
      lent = ap (with_contacts m.lent) (lent-kept peer_size me m.lent.contacts _ _ h (seen-kept me m id (says_yes client) addresses));
      lookups = λ j e. refl;
    }
refused-keeps me m (host.settle head id client addresses answered) h =
    record {
      lent = ap (with_contacts m.lent) (lent-kept peer_size me m.lent.contacts _ _ h (settle-kept me m head id (says_yes client) addresses (says_yes answered)));
      lookups = λ j e. refl;
    }
refused-keeps me m (host.remove id) h =
    record { lent = ap (with_contacts m.lent) (lent-kept peer_size me m.lent.contacts _ _ h (remove-kept me m id)); lookups = λ j e. refl }
refused-keeps me m (host.doubt id) h =
    record { lent = ap (with_contacts m.lent) (lent-kept peer_size me m.lent.contacts _ _ h (doubt-kept me m id)); lookups = λ j e. refl }
refused-keeps me m (host.nearest key) h = record { lent = refl; lookups = λ j e. refl }
refused-keeps me m (host.lookup_starts j key limit) h = record { lent = refl; lookups = λ k e. other-lookup me m j _ key limit k (λ q. e key limit q) }
refused-keeps me m (host.lookup_next j) h =
    record {
      lent = refl;
      lookups = λ k e. put_back me m j _ (lent-kept flat_size (m.lookups j) (m.lookups j) _ _ h (step_kept me m (m.lookups j) (next_step me m j))) k;
    }
refused-keeps me m (host.lookup_replies j id body view) h =
    record {
      lent = refl;
      lookups = λ k e. put_back me m j _ (if-short (too_short me (m.lookups j)) (m.lookups j) _ _ h (step_kept me m (m.lookups j) (reply_step me m j id body view))) k;
    }
refused-keeps me m (host.lookup_hears i j id) h =
    record {
      lent = refl;
      lookups = λ k e. put_back me m j _ (if-short (too_short me (m.lookups j)) (m.lookups j) _ _ h (step_kept me m (m.lookups j) (heard_step me m i j id))) k;
    }
refused-keeps me m (host.lookup_fails j id) h =
    record {
      lent = refl;
      lookups = λ k e. put_back me m j _ (if-short (too_short me (m.lookups j)) (m.lookups j) _ _ h (step_kept me m (m.lookups j) (failure_step me m j id))) k;
    }
