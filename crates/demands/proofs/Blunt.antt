-- Opening and ending don't look at the receive buffer, and leave a connection shut or at the start of a message. Assumes nothing.
use Prim.Native.Nat.{ℕ}
use mathlib.Core.Path.{◌≡◌, refl, sym, ap, ◌∙◌}
use mathlib.Core.Bool.{Bool, false, not, ◌||◌, true≢false}
use mathlib.Core.List.{List, []}
use Rattle.octets.proofs.Bools.{cond_ind, cond_yes}
use Rattle.peer.specs.declared.Peer.{Peer}
use Rattle.peer.specs.Peers.{bad_peer}
use Rattle.stream.specs.declared.Framing.{Framing}
use Rattle.stream.specs.declared.Framing.TheVariants.{Shut}
use Rattle.stream.specs.Stream.{is_shut, fresh}
use Rattle.cutting.specs.World.{Line, Fine}
use Rattle.cutting.specs.Plain.{Wire, standing, Blunt}
use Rattle.cutting.proofs.Kept.{end-shuts}
use Rattle.connections.specs.declared.Opened.{Opened}
use Rattle.connections.specs.declared.Ended.{Ended}
use Rattle.connections.specs.Box.{own_fits, open_of, end_conn}
use Rattle.demands.specs.Box as box
use Rattle.demands.specs.Box.{Box, Who, Turn, Fits, turning, Allowed}
use Rattle.demands.proofs.Connections.{conn-form}

module _ (me : Peer) where
  module _ (i : ℕ) (w : Wire Who Turn) (m : List ℕ) (a : Box) where
    turn-who : (b : Turn) → (turning me i b (standing w m) a).line.who ≡ (turning me i b (standing w []) a).line.who
    turn-who (box.opens id server side addresses n) = refl
    turn-who box.ends = refl

    turn-framing : (b : Turn) → (turning me i b (standing w m) a).line.framing ≡ (turning me i b (standing w []) a).line.framing
    turn-framing (box.opens id server side addresses n) = refl
    turn-framing box.ends = refl

    turn-taken : (b : Turn) → (turning me i b (standing w m) a).line.taken ≡ (turning me i b (standing w []) a).line.taken
    turn-taken (box.opens id server side addresses n) = refl
    turn-taken box.ends = refl

    turn-state : (b : Turn) → (turning me i b (standing w m) a).shared ≡ (turning me i b (standing w []) a).shared
    turn-state (box.opens id server side addresses n) = refl
    turn-state box.ends = refl

  abbrev Anew : Framing → Type 0
  Anew f = is_shut f ≡ false → f ≡ fresh

  open-anew : (id : List ℕ) (server side : Bool) (addresses : List ℕ) → Anew (open_of me id server side addresses).conn.framing
  unfolding open_of
  open-anew id server side addresses =
      cond_ind (λ (o : Opened). Anew o.conn.framing) (not (own_fits me) || bad_peer me.place id) _ _ (λ e z. absurd (true≢false z)) (λ e z. refl)

  end-shut : (i : ℕ) (l : Line Who) (a : Box) → Fine (Allowed me) l → (turning me i box.ends l a).line.framing ≡ Shut
  unfolding end_conn
  end-shut i l a f = ap (λ (e : Ended). e.conn.framing) (cond_yes _ _ _ (conn-form me l f)) ∙ end-shuts l.framing f.form

  turn-anew : (i : ℕ) (b : Turn) (l : Line Who) (a : Box) → Fine (Allowed me) l → Anew (turning me i b l a).line.framing
  turn-anew i (box.opens id server side addresses m) l a f = open-anew id server side addresses
  turn-anew i box.ends l a f = λ z. absurd (true≢false (sym (ap is_shut (end-shut i l a f)) ∙ z))

  pub blunt : Blunt (box.box me) (Allowed me) Fits
  blunt =
      record {
        who = λ i b w m a x. turn-who i w m a b;
        framing = λ i b w m a x. turn-framing i w m a b;
        taken = λ i b w m a x. turn-taken i w m a b;
        state = λ i b w m a x. turn-state i w m a b;
        anew = λ i b l a x f z. turn-anew i b l a f z;
      }
