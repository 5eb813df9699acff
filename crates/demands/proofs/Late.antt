-- A receive that gets past the gate never gives 0, 1, 2 or 12. Assumes nothing.
use Prim.Native.Nat.{ℕ, ◌≤◌}
use mathlib.Core.Path.{◌≡◌, refl, sym, ap, ◌∙◌, subst}
use mathlib.Core.Bool.{Bool, true, false, cond, not}
use mathlib.Core.List.{List}
use native.Mathlib.Omega.{arith}
use lib.Dec.{ltb}
use lib.ListN.{length}
use borrow.Author.Tests.{ltb-false, not-false}
use Rattle.limits.specs.Limits.{most_body, least_reply}
use Rattle.refusal.specs.declared.Refusal.{Refusal}
use Rattle.refusal.specs.declared.Refusal.TheVariants.{OutOfForm, SmallBuffer, Shut, BadPeer}
use Rattle.peer.specs.declared.Peer.{Peer}
use Rattle.contacts.specs.Form.{in_form as contacts_form}
use Rattle.records.specs.Store.{in_form as records_form}
use Rattle.stream.specs.Stream as streams
use Rattle.stream.specs.Stream.{is_shut, run_of}
use Rattle.stream.proofs.Steps.{call-runs}
use Rattle.cutting.specs.World.{Line}
use Rattle.replies.specs.Lent.{Lent}
use Rattle.connections.specs.declared.Conn.{Conn}
use Rattle.connections.specs.Box.{own_fits, conn_form}
use Rattle.node.specs.Node.{Link, linked, Out, gate_of, receive_of}
use Rattle.node_promises.proofs.Keeping.{form-framing}
use Rattle.demands.specs.Box.{Who, conn_of, who_in}
use Rattle.demands.proofs.Receives.{let_through, runs_as}
use Rattle.demands.proofs.Refusals.{Raised, AnswerRaised, run-raised, event-raised}
use Rattle.std.specs.Prelude.{Ok, Err, Result, ⊤}

-- what an open gate says of the connection, its buffer and whether it is shut
gate-passed : (a b c d e f g : Bool)
    → ◌≡◌ {A = Result ⊤ Refusal} (cond a (Err OutOfForm) (cond b (Err OutOfForm) (cond c (Err OutOfForm) (cond d (Err SmallBuffer) (cond e (Err SmallBuffer) (cond f (Err Shut) (cond g (Err BadPeer) (Ok tt)))))))) (Ok tt)
    → (c ≡ false) × (d ≡ false) × (f ≡ false)
gate-passed true b c d e f g h = absurd (let z : ◌≡◌ {A = ℕ} 0 1 = cc in omega arith)
gate-passed false true c d e f g h = absurd (let z : ◌≡◌ {A = ℕ} 0 1 = cc in omega arith)
gate-passed false false true d e f g h = absurd (let z : ◌≡◌ {A = ℕ} 0 1 = cc in omega arith)
gate-passed false false false true e f g h = absurd (let z : ◌≡◌ {A = ℕ} 0 1 = cc in omega arith)
gate-passed false false false false true f g h = absurd (let z : ◌≡◌ {A = ℕ} 0 1 = cc in omega arith)
gate-passed false false false false false true g h = absurd (let z : ◌≡◌ {A = ℕ} 0 1 = cc in omega arith)
gate-passed false false false false false false g h = (refl, refl, refl)

module _ (me : Peer) (link : Link) (bs : List ℕ) (l : Lent) (open-gate : gate_of me link l ≡ Ok tt) where
  abbrev c : Conn
  c = link.conn

  abbrev m : List ℕ
  m = link.buffer

  passed : (not (conn_form me c) ≡ false) × (ltb (length m) most_body ≡ false) × (is_shut c.framing ≡ false)
  unfolding gate_of
  passed =
      gate-passed (not (contacts_form l.contacts me.place)) (not (records_form l.records)) (not (conn_form me c)) (ltb (length m) most_body) (ltb (length l.reply) least_reply) (is_shut c.framing)
      (not (own_fits me)) open-gate

  abbrev line : Line Who
  line = record { who = who_in c; framing = c.framing; buffer = m; taken = 0 }

  raised : AnswerRaised (receive_of me link bs l).got.answer
  raised =
      let o : streams.Out = run_of c.framing m bs in
      let runs = call-runs c.framing m bs (form-framing me c (not-false (conn_form me c) passed.0)) (ltb-false (length m) most_body passed.1) passed.2 in
      subst (λ (x : Out). AnswerRaised x.got.answer) (sym (let_through me line bs l open-gate ∙ runs_as me line bs l o runs))
      (event-raised me o.got.answer (linked (conn_of (who_in c) o.got.framing) o.buffer) o.got.taken l (run-raised bs c.framing m))

  pub late : (r : Refusal) → (receive_of me link bs l).got.answer ≡ Err r → Raised r
  late r e = subst AnswerRaised e raised
