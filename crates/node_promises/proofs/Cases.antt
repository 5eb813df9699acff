-- Each way that a receive and a message can go. Assumes nothing.
use Prim.Native.Nat.{ℕ}
use mathlib.Core.Path.{◌≡◌, refl, sym, ◌∙◌, subst}
use mathlib.Core.List.{List}
use native.Mathlib.Omega.{arith}
use lib.ListN.{take}
use Rattle.octets.proofs.Bools.{cond_ind}
use Rattle.refusal.specs.declared.Refusal.{Refusal}
use Rattle.peer.specs.declared.Peer.{Peer}
use Rattle.stream.specs.Stream as frames
use Rattle.replies.specs.Lent.{Lent, with_contacts}
use Rattle.replies.specs.Verdicts.{Dealt}
use Rattle.answer.specs.Answers.{deal_of}
use Rattle.answer_promises.proofs.Promised.{refused-changes-nothing}
use Rattle.connections.specs.declared.Conn.{Conn}
use Rattle.node.specs.declared.Answer.TheVariants.{Reply, More}
use Rattle.connections.specs.Box.{with_framing}
use Rattle.node.specs.Node.{Link, linked, Dealing, untouched, sight_of, contacts_after, by_answer, served, heard, dealing_of, gate_of, Out, received, done, by_event, taken_of, unless, receive_of}
use Rattle.std.specs.Prelude.{Ok, Err, Some, None, Result, Option, ⊤}

-- ---- a message
module _ (me : Peer) (c : Conn) (body : List ℕ) (l : Lent) where
  abbrev d : Dealt
  d = deal_of me c.peer body l

  pub deal-cases : (D : Dealing → Type 0) → D (heard body l) → ((x : Refusal) → D (untouched (Err x) l))
      → ((n : ℕ) → D (record { answer = Ok (Reply n); sight = sight_of me c l.contacts; left = with_contacts d.left (contacts_after me c l.contacts) }))
      → D (dealing_of me c body l)
  unfolding dealing_of served
  deal-cases D h r a = cond_ind D c.asking (heard body l) (served me c body l) (λ e. h) (λ e. go d.told refl)
    where
      go : (x : Result ℕ Refusal) → d.told ≡ x → D (by_answer x d.left me c l)
      go (Err x) e = subst (λ (z : Lent). D (untouched (Err x) z)) (sym (refused-changes-nothing me c.peer body l x e)) (r x)
      go (Ok n) e = a n

-- ---- a receive
module _ (me : Peer) (link : Link) (bs : List ℕ) (l : Lent) where
  abbrev o : frames.Out
  o = frames.receive_of link.conn.framing link.buffer bs

  -- the connection after the framing has taken its bytes
  abbrev pub afterwards : Conn
  afterwards = with_framing link.conn (frames.receive_of link.conn.framing link.buffer bs).got.framing

  abbrev goes : Dealing → Out
  goes x = done (linked afterwards o.buffer) o.got.taken x

  pub cases : (Q : Out → Type 0)
      → ((s : Refusal) → gate_of me link l ≡ Err s → Q (record { got = received link.conn 0 (Err s) None; buffer = link.buffer; left = l }))
      → (gate_of me link l ≡ Ok tt → (n : ℕ) → Q (goes (dealing_of me afterwards (take n o.buffer) l)))
      → (gate_of me link l ≡ Ok tt → (x : Refusal) → Q (goes (untouched (Err x) l)))
      → (gate_of me link l ≡ Ok tt → Q (goes (untouched (Ok More) l)))
      → Q (receive_of me link bs l)
  unfolding receive_of taken_of
  cases Q q m x w = gate (gate_of me link l) refl
    where
      framing : gate_of me link l ≡ Ok tt → (a : Result (Option ℕ) Refusal) → Q (by_event a me (linked afterwards o.buffer) o.got.taken l)
      framing e (Ok (Some n)) = m e n
      framing e (Err r) = x e r
      framing e (Ok None) = w e

      gate : (g : Result ⊤ Refusal) → gate_of me link l ≡ g → Q (unless g link l (taken_of me link bs l))
      gate (Err s) e = q s e
      gate (Ok tt) e = framing e o.got.answer

  -- where the gate is open there is the rest alone
  pub open-cases : gate_of me link l ≡ Ok tt → (Q : Out → Type 0) → ((n : ℕ) → Q (goes (dealing_of me afterwards (take n o.buffer) l)))
      → ((x : Refusal) → Q (goes (untouched (Err x) l))) → Q (goes (untouched (Ok More) l)) → Q (receive_of me link bs l)
  open-cases e Q m x w = cases Q (λ s h. absurd (let z : ◌≡◌ {A = (Result ⊤ Refusal)} (Err s) (Ok tt) = sym h ∙ e in let u : ◌≡◌ {A = ℕ} 0 1 = cc in omega arith)) (λ h. m) (λ h. x) (λ h. w)
