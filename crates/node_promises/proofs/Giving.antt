-- What a start, an open and an end give. Assumes nothing.
use mathlib.Core.Path.{◌≡◌, refl, sym, ap, ◌∙◌}
use mathlib.Core.Bool.{Bool, true, false, cond, not, true≢false}
use Rattle.octets.proofs.Bools.{or_r, cond_yes}
use Rattle.refusal.specs.declared.Refusal.TheVariants as no
use Rattle.peer.specs.declared.Peer.{Peer}
use Rattle.peer.specs.Peers.{bad_peer}
use Rattle.stream.specs.declared.Framing.{Framing}
use Rattle.stream.specs.declared.Framing.TheVariants.{Shut, Prefix, Body}
use Rattle.stream.specs.declared.Held.TheVariants.{Nothing, One, Two}
use Rattle.stream.specs.declared.Ended as streams
use Rattle.stream.specs.Stream.{fresh, is_shut, in_form, ended, end_in, end_of}
use Rattle.connections.specs.declared.Conn.{Conn}
use Rattle.connections.specs.declared.Ended.{Ended}
use Rattle.connections.specs.Box.{own_fits, start_of, with_framing, open_of, conn_form, end_conn}
use Rattle.connections.proofs.Bounds.{end-shuts}
use Rattle.node_promises.specs.Promises.{BoxCalls}
use Rattle.node_promises.proofs.Keeping.{form-framing}
use Rattle.std.specs.Prelude.{Err}

-- ---- of a framing by itself
in-form : (f : Framing) → in_form f ≡ true → end_of f ≡ end_in f
unfolding end_of
in-form f h = ap (λ (t : Bool). cond (not t) (ended f (Err no.OutOfForm)) (end_in f)) h

ends-inside : (f : Framing) → is_shut f ≡ false → (f ≡ fresh → ⊥) → (end_in f).answer ≡ Err no.EndedInside
ends-inside Shut e n = absurd (true≢false e)
ends-inside (Prefix Nothing) e n = absurd (n refl)
ends-inside (Prefix (One a)) e n = refl
ends-inside (Prefix (Two a b)) e n = refl
ends-inside (Body want have) e n = refl

ends-again : (f : Framing) → is_shut f ≡ true → (in_form f ≡ true) × ((end_in f).answer ≡ Err no.Shut)
ends-again Shut e = (refl, refl)
ends-again (Prefix h) e = absurd (true≢false (sym e))
ends-again (Body want have) e = absurd (true≢false (sym e))

-- ---- and of a connection
module _ (me : Peer) (c : Conn) (h : conn_form me c ≡ true) where
  ends_so : end_conn me c ≡ record { conn = with_framing c (end_of c.framing).framing; answer = (end_of c.framing).answer }
  unfolding end_conn
  ends_so = cond_yes (conn_form me c) _ _ h

  answers : (end_conn me c).answer ≡ (end_in c.framing).answer
  answers = ap (λ (e : Ended). e.answer) ends_so ∙ ap (λ (e : streams.Ended). e.answer) (in-form c.framing (form-framing me c h))

  shuts : (end_conn me c).conn ≡ with_framing c Shut
  shuts = ap (λ (e : Ended). e.conn) ends_so ∙ ap (with_framing c) (end-shuts c.framing (form-framing me c h))

shut-form : (me : Peer) (c : Conn) → is_shut c.framing ≡ true → conn_form me c ≡ true
unfolding conn_form
shut-form me c e = rw e refl

pub box-calls : BoxCalls
unfolding start_of open_of
box-calls =
    record {
      starts = λ id addresses h. rw h refl;
      unstarted = λ id addresses h. rw h refl;
      opens = λ me id server asking addresses w h. rw (w, h) refl;
      unopened = λ me id server asking addresses h. cond_yes _ _ _ (or_r (not (own_fits me)) (bad_peer me.place id) h);
      shuts = shuts;
      clean = λ me c h e. answers me c h ∙ ap (λ (f : Framing). (end_in f).answer) e;
      inside = λ me c h e n. answers me c h ∙ ends-inside c.framing e n;
      again = λ me c e. answers me c (shut-form me c e) ∙ (ends-again c.framing e).1;
    }
