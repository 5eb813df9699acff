-- The box and the connections as bytes: what start, open, end and receive write stands for what they hand back. Assumes nothing.
use Prim.Native.Nat.{ℕ, ◌≤◌}
use mathlib.Core.Path.{◌≡◌, refl, sym, ap, ◌∙◌, subst}
use mathlib.Core.Bool.{Bool, true, false, not, ◌||◌}
use mathlib.Core.List.{List}
use native.Mathlib.Omega.{arith}
use lib.ListN.{length, replicate, length-replicate}
use lib.Seq.{sets, length-sets}
use lib.Dec.{ltb}
use borrow.Author.Tests.{le-ltb, lt-leb, ne_eqb}
use Rattle.octets.proofs.Bools.{cond_ind, cond_yes, cond_no, or-fails}
use Rattle.refusal.specs.declared.Refusal.{Refusal}
use Rattle.refusal.specs.Refusal.{number_of}
use Rattle.place.specs.Place.{place_of}
use Rattle.place.proofs.Places.{length-place_of}
use Rattle.peer.specs.declared.Peer.{Peer}
use Rattle.peer.specs.Peers.{bad_peer, peer_of}
use Rattle.peer.proofs.Meaning.{id-length, addrs-length, lens-length, place_is}
use Rattle.stream.specs.declared.Held.TheVariants.{Nothing, One, Two}
use Rattle.stream.specs.declared.Framing.{Framing}
use Rattle.stream.specs.declared.Framing.TheVariants.{Shut, Prefix, Body}
use Rattle.stream.specs.Stream.{in_form, end_in, end_of}
use Rattle.stream.specs.declared.Ended as stream_end
use Rattle.connections.specs.declared.Opened.{Opened}
use Rattle.connections.specs.declared.Ended.{Ended}
use Rattle.connections.specs.Box as conns
use Rattle.connections.specs.Box.{own_fits, nobody, open_of, conn_form, end_conn}
use Rattle.node.specs.declared.Answer.{Answer}
use Rattle.node.specs.declared.Answer.TheVariants.{Reply, Heard, More}
use Rattle.node.specs.declared.Received.{Received}
use Rattle.flat.specs.Flat.{peer_size, conn_size, framing_at, conn_in, framing_bytes, conn_bytes, with_framing}
use Rattle.flat.specs.Promises.{Whole}
use Rattle.flat.proofs.Back.{reads-back-lent}
use Rattle.host_state.specs.State.{changes_nothing, ending_framing, ended_memory, answer_framing, received_memory}
use Rattle.host.specs.Host.{lent, lent_both}
use Rattle.demands.proofs.Refusals.{Raised, AnswerRaised}
use Rattle.std.specs.Prelude.{Ok, Err, Result, ⊤}

-- ---- memory that is long enough
pub lent-enough : {A : Type 0} (n : ℕ) (s : List ℕ) (x y : A) → n ≤ length s → lent n s x y ≡ y
unfolding lent
lent-enough n s x y h = cond_no (ltb (length s) n) x y (le-ltb (length s) n h)

pub both-enough : {A : Type 0} (me conn : List ℕ) (x y : A) → peer_size ≤ length me → conn_size ≤ length conn → lent_both me conn x y ≡ y
both-enough me conn x y h g = lent-enough peer_size me x (lent conn_size conn x y) h ∙ lent-enough conn_size conn x y g

-- ---- a peer as start and open make it has arrays of their lengths
pub peer-whole : (id place addresses : List ℕ) → length place ≡ 32 → Whole (peer_of id place addresses)
peer-whole id place addresses h =
    record {
      addrs = addrs-length id place addresses;
      id = id-length id place addresses;
      place = ap length (place_is id place addresses) ∙ h;
      lens = lens-length id place addresses;
    }

pub open-whole : (me : Peer) (id : List ℕ) (server asking : Bool) (addresses : List ℕ) → Whole (open_of me id server asking addresses).conn.peer
unfolding open_of nobody
open-whole me id server asking addresses =
    cond_ind (λ (o : Opened). Whole o.conn.peer) (not (own_fits me) || bad_peer me.place id) _ _
    (λ e. peer-whole _ (replicate 32 0) _ (length-replicate {A = ℕ} 32 0)) (λ e. peer-whole id (place_of id) addresses (length-place_of id))

pub open-form : (me : Peer) (id : List ℕ) (server asking : Bool) (addresses : List ℕ) → in_form (open_of me id server asking addresses).conn.framing ≡ true
unfolding open_of
open-form me id server asking addresses =
    cond_ind (λ (o : Opened). in_form o.conn.framing ≡ true) (not (own_fits me) || bad_peer me.place id) _ _ (λ e. refl) (λ e. refl)

pub open-reads : (me : Peer) (conn id : List ℕ) (server asking : Bool) (addresses : List ℕ) → conn_size ≤ length conn
    → conn_in (sets conn 0 (conn_bytes (open_of me id server asking addresses).conn)) ≡ (open_of me id server asking addresses).conn
open-reads me conn id server asking addresses h =
    reads-back-lent.conn conn (open_of me id server asking addresses).conn h (open-whole me id server asking addresses)
    (open-form me id server asking addresses)

-- ---- a framing that is written, or left as it was
module _ (conn : List ℕ) (h : conn_size ≤ length conn) where
  written : (f : Framing) → in_form f ≡ true → conn_in (with_framing conn f) ≡ conns.with_framing (conn_in conn) f
  written f g = reads-back-lent.framing conn f h g

  written-length : (f : Framing) → conn_size ≤ length (with_framing conn f)
  written-length f = omega (arith, h, length-sets conn framing_at (framing_bytes f))

  pub raised_writes : (r : Refusal) → Raised r → changes_nothing r ≡ false
  unfolding changes_nothing
  raised_writes r a = or-fails _ _ (lt-leb (number_of r) 2 (omega (arith, a.0))) (ne_eqb (number_of r) 12 (λ e. omega (arith, a.1)))

  -- receive: only 0, 1, 2 and 12 leave the bytes alone, and none of these is raised on a connection
  pub receive-reads : (g : Received) → AnswerRaised g.answer → in_form g.conn.framing ≡ true
      → conns.with_framing (conn_in conn) g.conn.framing ≡ g.conn → conn_in (received_memory conn g) ≡ g.conn
  receive-reads g a i e = go g.answer a
    where
      f : Framing
      f = g.conn.framing

      stands : conn_in (with_framing conn f) ≡ g.conn
      stands = written f i ∙ e

      go : (x : Result Answer Refusal) → AnswerRaised x → conn_in (answer_framing conn f x) ≡ g.conn
      go (Ok (Reply n)) a = stands
      go (Ok (Heard n v)) a = stands
      go (Err r) a = ap conn_in (cond_no (changes_nothing r) conn (with_framing conn f) (raised_writes r a)) ∙ stands
      go (Ok More) a = stands

  pub receive-length : (g : Received) → conn_size ≤ length (received_memory conn g)
  receive-length g = go g.answer
    where
      f : Framing
      f = g.conn.framing

      wrote : conn_size ≤ length (with_framing conn f)
      wrote = written-length f

      go : (x : Result Answer Refusal) → conn_size ≤ length (answer_framing conn f x)
      go (Ok (Reply n)) = wrote
      go (Ok (Heard n v)) = wrote
      go (Err r) = cond_ind (λ (x : List ℕ). conn_size ≤ length x) (changes_nothing r) conn (with_framing conn f) (λ e. h) (λ e. wrote)
      go (Ok More) = wrote

  -- end: 2 leaves the bytes alone, and the connection is shut
  end-in : (f : Framing) → (conn_in conn).framing ≡ f
      → conn_in (ending_framing conn (end_in f).framing (end_in f).answer) ≡ conns.with_framing (conn_in conn) (end_in f).framing
  unfolding changes_nothing
  end-in Shut e = ap (λ (x : Framing). conns.with_framing (conn_in conn) x) e
  end-in (Prefix Nothing) e = written Shut refl
  end-in (Prefix (One a)) e = written Shut refl
  end-in (Prefix (Two a b)) e = written Shut refl
  end-in (Body want have) e = written Shut refl

  pub end_reads : (me : Peer) → conn_form me (conn_in conn) ≡ true → in_form (conn_in conn).framing ≡ true
      → conn_in (ended_memory conn (end_conn me (conn_in conn))) ≡ (end_conn me (conn_in conn)).conn
  unfolding end_conn end_of
  end_reads me c i =
      let f : Framing = (conn_in conn).framing in
      let yes : Ended = record { conn = conns.with_framing (conn_in conn) (end_of f).framing; answer = (end_of f).answer } in
      let e : end_of f ≡ end_in f = cond_no (not (in_form f)) _ _ (ap not i) in
      subst (λ (x : Ended). conn_in (ended_memory conn x) ≡ x.conn) (sym (cond_yes (conn_form me (conn_in conn)) yes _ c))
      (subst (λ (x : stream_end.Ended). conn_in (ending_framing conn x.framing x.answer) ≡ conns.with_framing (conn_in conn) x.framing) (sym e)
      (end-in f refl))

  pub end-length : (e : Ended) → conn_size ≤ length (ended_memory conn e)
  end-length e = go e.answer
    where
      f : Framing
      f = e.conn.framing

      go : (x : Result ⊤ Refusal) → conn_size ≤ length (ending_framing conn f x)
      go (Ok tt) = written-length f
      go (Err r) = cond_ind (λ (x : List ℕ). conn_size ≤ length x) (changes_nothing r) conn (with_framing conn f) (λ e. h) (λ e. written-length f)
