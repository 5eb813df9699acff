-- What a receive hands over is what the box below it gave. Assumes nothing.
use Prim.Native.Nat.{ℕ, ◌<◌, ◌≤◌}
use mathlib.Core.Path.{◌≡◌, ap, ◌∙◌}
use mathlib.Core.List.{List}
use lib.ListN.{length}
use Rattle.peer.specs.declared.Peer.{Peer}
use Rattle.connections.specs.declared.Conn.{Conn}
use Rattle.flat.specs.Flat.{peer_size, conn_size, peer_in, conn_in}
use Rattle.node.specs.declared.Received.{Received}
use Rattle.replies.specs.Lent as memory
use Rattle.node.specs.Node.{linked, Out, Gives, receive_of}
use Rattle.host_state.specs.State.{answer_number, received_numbers, received_memory, nothing_taken}
use Rattle.host.specs.Host.{receive_for, Receives}
use Rattle.host.proofs.Handing.{both-short, both-second, both-enough}

module _ (me conn m bs t k y out : List ℕ) where
  pub receive-short : (r : ℕ) (out' : List ℕ) → length me < peer_size → (r ≡ 0) × (out' ≡ nothing_taken out)
      → Receives me conn m bs t k y out r conn m t k y out'
  receive-short r out' l h = record {
    code = h.0 ∙ both-short me conn 0 (answer_number (receive_for me conn m bs (memory.lent t k y)).got.answer) l;
    connection = both-short me conn conn _ l;
    buffer = both-short me conn m _ l;
    contacts = both-short me conn t _ l;
    records = both-short me conn k _ l;
    reply = both-short me conn y _ l;
    numbers = h.1 ∙ both-short me conn (nothing_taken out) (received_numbers out (receive_for me conn m bs (memory.lent t k y)).got) l;
  }

  pub receive-second : (r : ℕ) (out' : List ℕ) → peer_size ≤ length me → length conn < conn_size → (r ≡ 0) × (out' ≡ nothing_taken out)
      → Receives me conn m bs t k y out r conn m t k y out'
  receive-second r out' l s h = record {
    code = h.0 ∙ both-second me conn 0 (answer_number (receive_for me conn m bs (memory.lent t k y)).got.answer) l s;
    connection = both-second me conn conn _ l s;
    buffer = both-second me conn m _ l s;
    contacts = both-second me conn t _ l s;
    records = both-second me conn k _ l s;
    reply = both-second me conn y _ l s;
    numbers = h.1 ∙ both-second me conn (nothing_taken out) (received_numbers out (receive_for me conn m bs (memory.lent t k y)).got) l s;
  }

  same-call : (p : Peer) (c : Conn) → p ≡ peer_in me → c ≡ conn_in conn → receive_of p (linked c m) bs (memory.lent t k y) ≡ receive_for me conn m bs (memory.lent t k y)
  same-call p c ep ec = ap (λ (x : Peer). receive_of x (linked c m) bs (memory.lent t k y)) ep ∙ ap (λ (x : Conn). receive_of (peer_in me) (linked x m) bs (memory.lent t k y)) ec

  pub receive-done : (p : Peer) (c : Conn) (g : Received) (r : ℕ) (conn' m' t' k' y' out' : List ℕ) → peer_size ≤ length me → conn_size ≤ length conn
      → p ≡ peer_in me → c ≡ conn_in conn → Gives (receive_of p (linked c m) bs (memory.lent t k y)) g m' t' k' y'
      → (r ≡ answer_number g.answer) × (conn' ≡ received_memory conn g) × (out' ≡ received_numbers out g)
      → Receives me conn m bs t k y out r conn' m' t' k' y' out'
  receive-done p c g r conn' m' t' k' y' out' l s ep ec h a =
      let e = same-call p c ep ec in
      let f = h.got ∙ ap (λ (o : Out). o.got) e in
      record {
        code = a.0 ∙ ap (λ (x : Received). answer_number x.answer) f
            ∙ both-enough me conn 0 (answer_number (receive_for me conn m bs (memory.lent t k y)).got.answer) l s;
        connection = a.1 ∙ ap (received_memory conn) f ∙ both-enough me conn conn (received_memory conn (receive_for me conn m bs (memory.lent t k y)).got) l s;
        buffer = h.buffer ∙ ap (λ (o : Out). o.buffer) e ∙ both-enough me conn m (receive_for me conn m bs (memory.lent t k y)).buffer l s;
        contacts = h.contacts ∙ ap (λ (o : Out). o.left.contacts) e ∙ both-enough me conn t (receive_for me conn m bs (memory.lent t k y)).left.contacts l s;
        records = h.records ∙ ap (λ (o : Out). o.left.records) e ∙ both-enough me conn k (receive_for me conn m bs (memory.lent t k y)).left.records l s;
        reply = h.reply ∙ ap (λ (o : Out). o.left.reply) e ∙ both-enough me conn y (receive_for me conn m bs (memory.lent t k y)).left.reply l s;
        numbers = a.2 ∙ ap (received_numbers out) f
            ∙ both-enough me conn (nothing_taken out) (received_numbers out (receive_for me conn m bs (memory.lent t k y)).got) l s;
      }
