-- A connection that is fine, on a box that a start gave, over memory in form: 0, 1, 2 and 12 let it through. Assumes nothing.
use Prim.Native.Nat.{ℕ, ◌<◌}
use mathlib.Core.Path.{◌≡◌, sym, ap, ◌∙◌, subst}
use mathlib.Core.Logic.{⊎_elim}
use mathlib.Core.Bool.{true, false, cond, not}
use mathlib.Core.List.{List}
use native.Mathlib.Omega.{arith}
use lib.ListN.{length}
use lib.Dec.{ltb}
use borrow.Author.Tests.{le-leb, le-ltb}
use Rattle.octets.specs.Octets.{same}
use Rattle.octets.proofs.Bools.{either, and_i, or_l, or_r, to-false, cond_ind, cond_yes, cond_no, all_none, all-one-more}
use Rattle.octets.proofs.Strings.{same-eq}
use Rattle.limits.specs.Limits.{most_body, least_reply}
use Rattle.refusal.specs.declared.Refusal.{Refusal}
use Rattle.refusal.specs.declared.Refusal.TheVariants.{Shut, BadPeer}
use Rattle.place.specs.Place.{bucket_of}
use Rattle.place.proofs.Buckets.{bucket-self}
use Rattle.peer.specs.declared.Peer.{Peer}
use Rattle.sightings_kept.specs.Promises.{Fair}
use Rattle.stream.specs.declared.Framing.{Framing}
use Rattle.stream.specs.Stream as streams
use Rattle.stream.specs.Stream.{is_shut, in_form, receive_of as framed_of}
use Rattle.cutting.specs.World.{Line, Fine}
use Rattle.connections.specs.declared.Conn.{Conn}
use Rattle.connections.specs.Box.{own_fits, conn_form}
use Rattle.node.specs.Node.{gate_of}
use Rattle.demands.specs.Box.{Box, Who, conn_of, link_of, Own, Allowed, Good}
use Rattle.std.specs.Prelude.{Ok, Err, Some}

pub peer-form : (ours : List ℕ) (p : Peer) → Fair ours p → own_fits p ≡ true
unfolding own_fits
peer-form ours p f = and_i _ _ (le-leb 1 p.size f.id_least) (le-leb p.size 64 f.id_most)

pub other_place : (ours : List ℕ) (p : Peer) → Fair ours p → same p.place ours ≡ false
other_place ours p f = to-false (same p.place ours) (λ e. at-ours (same-eq p.place ours e))
  where
    at-ours : p.place ≡ ours → ⊥
    at-ours e =
        let b : bucket_of p.place p.place < 256 = subst (λ (x : List ℕ). bucket_of p.place x < 256) (sym e) f.other in
        omega (arith, b, bucket-self p.place f.place_long)

module _ (me : Peer) where
  -- a peer of such an id, at another place, with the framing in form
  pub in-form : (c : Conn) → own_fits c.peer ≡ true → not (same c.peer.place me.place) ≡ true → in_form c.framing ≡ true → conn_form me c ≡ true
  unfolding conn_form
  in-form c p q f = or_r (is_shut c.framing) _ (all-one-more _ _ p (all-one-more _ _ q (all-one-more _ _ f all_none)))

  shut-form : (c : Conn) → is_shut c.framing ≡ true → conn_form me c ≡ true
  unfolding conn_form
  shut-form c e = or_l (is_shut c.framing) _ e

  pub conn-form : (l : Line Who) → Fine (Allowed me) l → conn_form me (conn_of l.who l.framing) ≡ true
  conn-form l f = ⊎_elim (λ e. shut-form (conn_of l.who l.framing) e) (λ e. open-form (f.peer e)) (either (is_shut l.framing))
    where
      open-form : Fair me.place l.who.peer → conn_form me (conn_of l.who l.framing) ≡ true
      open-form p =
          in-form (conn_of l.who l.framing) (peer-form me.place l.who.peer p) (ap not (other_place me.place l.who.peer p)) f.form

  -- what is left of the tests where the first five pass
  gate-past : (l : Line Who) (a : Box) → Fine (Allowed me) l → Good me a
      → gate_of me (link_of l) a.lent
      ≡ cond (is_shut l.framing) (Err Shut) (cond (not (own_fits me)) (Err BadPeer) (Ok tt))
  unfolding gate_of
  gate-past l a f g =
      cond_no _ _ _ (ap not g.contacts) ∙ cond_no _ _ _ (ap not g.records) ∙ cond_no _ _ _ (ap not (conn-form l f))
      ∙ cond_no _ _ _ (le-ltb (length l.buffer) most_body f.room) ∙ cond_no _ _ _ (le-ltb (length a.lent.reply) least_reply g.room)

  pub gate-shut : (l : Line Who) (a : Box) → Fine (Allowed me) l → is_shut l.framing ≡ true → Good me a
      → gate_of me (link_of l) a.lent ≡ Err Shut
  gate-shut l a f o g = gate-past l a f g ∙ cond_yes _ _ _ o

  pub gate-open : Own me → (l : Line Who) (a : Box) → Fine (Allowed me) l → is_shut l.framing ≡ false → Good me a
      → gate_of me (link_of l) a.lent ≡ Ok tt
  gate-open w l a f o g = gate-past l a f g ∙ cond_no _ _ _ o ∙ cond_no _ _ _ (ap not w.fits)

-- ---- a shut connection completes no message
no-refusal : {r : Refusal} {n : ℕ} → Err r ≡ Ok (Some n) → ⊥
no-refusal e = let z : ◌≡◌ {A = ℕ} 0 1 = cc in omega arith

pub whole_open : (f : Framing) (m bs : List ℕ) (n : ℕ) → (framed_of f m bs).got.answer ≡ Ok (Some n) → is_shut f ≡ false
unfolding framed_of
whole_open f m bs n =
    cond_ind Opens (not (in_form f)) _ _ (λ x e. absurd (no-refusal e))
    (λ x. cond_ind Opens (ltb (length m) most_body) _ _ (λ y e. absurd (no-refusal e)) (λ y. cond_ind Opens (is_shut f) _ _ (λ z e. absurd (no-refusal e)) (λ z e. z)))
  where
    Opens : streams.Out → Type 0
    Opens o = o.got.answer ≡ Ok (Some n) → is_shut f ≡ false
