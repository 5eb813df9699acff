-- A box that starts, and a connection that opens or ends. Assumes nothing.
use Prim.Native.Nat.{ℕ}
use mathlib.Core.Path.{◌≡◌, sym, ap, ◌∙◌}
use mathlib.Core.Bool.{Bool, true, false, not, ◌||◌}
use mathlib.Core.List.{List}
use Rattle.octets.specs.Octets.{same}
use Rattle.octets.proofs.Bools.{cond_yes, cond_no, or_l, or_r, or-fails}
use Rattle.refusal.specs.declared.Refusal.TheVariants.{OutOfForm, BadPeer}
use Rattle.place.specs.Place.{place_of}
use Rattle.peer.specs.declared.Peer.{Peer}
use Rattle.peer.specs.Peers.{bad_peer, id_fits, peer_of}
use Rattle.peer.proofs.Meaning.{bad-by-id, bad-by-place}
use Rattle.stream.specs.declared.Framing.{Framing}
use Rattle.stream.specs.declared.Framing.TheVariants.{Shut}
use Rattle.stream.specs.declared.Ended as stream
use Rattle.stream.specs.Stream.{fresh, end_of}
use Rattle.connections.specs.declared.Conn.{Conn}
use Rattle.connections.specs.declared.Started.{Started}
use Rattle.connections.specs.declared.Opened.{Opened}
use Rattle.connections.specs.declared.Ended.{Ended}
use Rattle.connections.specs.Box.{own_fits, nobody, start_of, with_framing, open_of, conn_form, end_conn}
use Rattle.connections.specs.Inner.{starts_shut}
use Rattle.std.specs.Prelude.{Ok, Err}

-- ---- start
module _ (id addresses : List ℕ) where
  abbrev started : Peer → Started
  started me = record { me = me; told = (Ok tt) }

  pub start_fine : (at : List ℕ) (me : Peer) → id_fits id ≡ true → at ≡ place_of id → me ≡ peer_of id at addresses → started me ≡ start_of id addresses
  unfolding start_of
  start_fine at me h e q = ap started (q ∙ ap (λ (x : List ℕ). peer_of id x addresses) e) ∙ sym (cond_yes (id_fits id) _ _ h)

  pub start-refused : (me : Peer) → id_fits id ≡ false → me ≡ nobody → ◌≡◌ {A = Started} (record { me = me; told = Err BadPeer }) (start_of id addresses)
  unfolding start_of
  start-refused me h q = ap (λ (x : Peer). record { me = x; told = Err BadPeer }) q ∙ sym (cond_no (id_fits id) _ _ h)

-- ---- open
pub shut-peer : (server asking : Bool) (p : Peer) (f : Framing) → p ≡ nobody → f ≡ Shut
    → ◌≡◌ {A = Opened} (record { conn = record { peer = p; framing = f; server = server; asking = asking }; told = Err BadPeer }) (starts_shut server asking)
shut-peer server asking p f e q = rw (e, q)

module _ (me : Peer) (id : List ℕ) (server asking : Bool) (addresses : List ℕ) where
  open-refused : (not (own_fits me) || bad_peer me.place id) ≡ true → starts_shut server asking ≡ open_of me id server asking addresses
  unfolding open_of
  open-refused h = sym (cond_yes (not (own_fits me) || bad_peer me.place id) _ _ h)

  pub open_own : own_fits me ≡ false → starts_shut server asking ≡ open_of me id server asking addresses
  open_own h = open-refused (or_l (not (own_fits me)) (bad_peer me.place id) (ap not h))

  pub open-id : id_fits id ≡ false → starts_shut server asking ≡ open_of me id server asking addresses
  open-id h = open-refused (or_r (not (own_fits me)) (bad_peer me.place id) (bad-by-id me.place id h))

  module _ (g : id_fits id ≡ true) (at : List ℕ) (e : at ≡ place_of id) where
    bad-here : (b : Bool) → same at me.place ≡ b → bad_peer me.place id ≡ b
    bad-here b h = bad-by-place me.place id g ∙ ap (λ (x : List ℕ). same x me.place) (sym e) ∙ h

    pub open-ours : same at me.place ≡ true → starts_shut server asking ≡ open_of me id server asking addresses
    open-ours h = open-refused (or_r (not (own_fits me)) (bad_peer me.place id) (bad-here true h))

    abbrev opened : Peer → Framing → Opened
    opened p f = record { conn = record { peer = p; framing = f; server = server; asking = asking }; told = (Ok tt) }

    pub open-fine : (p : Peer) (f : Framing) → own_fits me ≡ true → same at me.place ≡ false → p ≡ peer_of id at addresses → f ≡ fresh
        → opened p f ≡ open_of me id server asking addresses
    unfolding open_of
    open-fine p f o h q w =
        (λ i. opened (q i) (w i)) ∙ ap (λ (x : List ℕ). opened (peer_of id x addresses) fresh) e
        ∙ sym (cond_no (not (own_fits me) || bad_peer me.place id) _ _ (or-fails (not (own_fits me)) (bad_peer me.place id) (ap not o) (bad-here false h)))

-- ---- end
module _ (me : Peer) (c : Conn) where
  abbrev ended : Conn → stream.Ended → Ended
  ended c' e = record { conn = c'; answer = e.answer }

  pub end_refused : conn_form me c ≡ false → ◌≡◌ {A = Ended} (record { conn = c; answer = Err OutOfForm }) (end_conn me c)
  unfolding end_conn
  end_refused h = sym (cond_no (conn_form me c) _ _ h)

  pub end-done : (c' : Conn) (e : stream.Ended) → conn_form me c ≡ true → e ≡ end_of c.framing → c' ≡ with_framing c e.framing → ended c' e ≡ end_conn me c
  unfolding end_conn
  end-done c' e h q w =
      ap (λ (x : Conn). ended x e) w ∙ ap (λ (x : stream.Ended). ended (with_framing c x.framing) x) q ∙ sym (cond_yes (conn_form me c) _ _ h)
