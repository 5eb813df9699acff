-- In memory once cleared, and since then changed by calls alone, every contact lies at the hash of its id. Assumes nothing.
use Prim.Native.Nat.{ℕ, zero, suc, ◌<◌, ◌*◌}
use mathlib.Core.Path.{◌≡◌, refl, sym, ap, ◌∙◌, subst}
use mathlib.Core.Bool.{Bool, true, false, cond, not, ◌||◌, true≢false}
use mathlib.Core.List.{List}
use lib.ListN.{get_or}
use Rattle.octets.proofs.Bools.{cond_ind, or_r, to-false, not-both}
use Rattle.place.specs.Place.{place_of}
use Rattle.peer.specs.declared.Peer.{Peer}
use Rattle.peer.specs.Peers.{bad_peer, peer_of, tidied}
use Rattle.peer.proofs.Meaning.{place_is, id-whole, fits-most, not-bad-id}
use Rattle.contacts.specs.Table.{slots_of, slot, mark, used}
use Rattle.contacts.specs.Form.{in_form as contacts_form}
use Rattle.sightings.specs.Sightings.{after_sighting, seen_table, fits, after_settling, settled_table, after_removal, removed_table}
use Rattle.sightings_kept.specs.Promises.{Hashed, HashedPeer}
use Rattle.sightings_kept.proofs.Hashed.{seen-hashed, settle-hashed, remove-hashed}
use Rattle.sightings_kept.proofs.Doubts.{doubt-hashed}
use Rattle.sightings_kept.proofs.Tidied.{fair-tidied, hashed-tidied}
use Rattle.contact_calls.specs.Calls.{seen_call, seen_call_table, settle_call, settle_call_table, remove_call, remove_call_table, doubt_call_table}
use Rattle.sightings.specs.declared.Sighting.{Sighting}
use Rattle.sightings.specs.declared.Settled.{Settled}
use Rattle.contact_calls.proofs.Doubts.{doubt-either}
use Rattle.contact_calls.proofs.Theorems.{fair}
use Rattle.stream.specs.Stream.{is_shut, fresh}
use Rattle.cutting.specs.Frames.{Event, message, refused as broken}
use Rattle.cutting.proofs.Kept.{end-shuts}
use Rattle.cutting.specs.World.{Line, World, Call, calls, Fine, Sound, Ready, AllFit}
use Rattle.replies.specs.Lent.{Lent}
use Rattle.replies.specs.Verdicts.{Dealt}
use Rattle.answer.specs.Answers.{deal_of}
use Rattle.answer.proofs.Serving.{deal-contacts}
use Rattle.node.specs.declared.Answer.{Answer}
use Rattle.node.specs.declared.Answer.TheVariants.{Reply, Heard, More}
use Rattle.connections.specs.declared.Opened.{Opened}
use Rattle.connections.specs.declared.Ended.{Ended}
use Rattle.connections.specs.Box.{own_fits, open_of, conn_form, end_conn}
use Rattle.node.specs.Node.{Dealing, contacts_after, by_answer, served, heard, dealing_of}
use Rattle.host_calls.specs.Hosts.{seen_after, settle_after, remove_after, doubt_after}
use Rattle.records_history.specs.History.{Offer}
use Rattle.demands.specs.Box as box
use Rattle.demands.specs.Box.{Box, Who, conn_of, who_in, offer_in, noted, Turn, Fits, Ask, dealing, happens, turning, asking, Own, Allowed, Good}
use Rattle.demands.proofs.Receives.{receives}
use Rattle.demands.proofs.Sound.{sound}
use Rattle.demands.proofs.Ready.{calls-ready}
use Rattle.std.specs.Prelude.{Ok, Err, Result, Option, ⊤}
use Rattle.refusal.specs.declared.Refusal.{Refusal}

-- a peer as `open` gives it, at the hash of its id; memory in form, each contact at the hash of its id
pub record Known (me : Peer) (w : Who) : Type 0 where
  pub allowed : Allowed me w
  pub hashed : HashedPeer w.peer

pub record Placed (me : Peer) (a : Box) : Type 0 where
  pub good : Good me a
  pub hashed : Hashed a.lent.contacts

-- ---- the calls on contacts
made-hashed : (ours id addresses : List ℕ) → bad_peer ours id ≡ false → HashedPeer (peer_of id (place_of id) addresses)
made-hashed ours id addresses b =
    place_is id (place_of id) addresses ∙ ap place_of (sym (id-whole id (place_of id) addresses (fits-most id (not-bad-id ours id b))))

module _ (me : Peer) (w : Own me) (t : List ℕ) (y : contacts_form t me.place ≡ true) (h : Hashed t) where
  seen-call : (id : List ℕ) (client : Bool) (addresses : List ℕ) → Hashed (seen_call_table t me.place id client addresses)
  unfolding seen_call_table seen_call after_sighting seen_table
  seen-call id client addresses =
      step (not (contacts_form t me.place)) _ _ (λ f. h) (λ f. step (bad_peer me.place id) _ _ (λ g. h) (λ g. step client _ _ (λ c. h) (λ c. taken g)))
    where
      p : Peer
      p = peer_of id (place_of id) addresses

      step : (c : Bool) (r s : Result Sighting Refusal) → (c ≡ true → Hashed (after_sighting t me.place p r)) → (c ≡ false → Hashed (after_sighting t me.place p s)) → Hashed (after_sighting t me.place p (cond c r s))
      step = cond_ind (λ (r : Result Sighting Refusal). Hashed (after_sighting t me.place p r))

      taken : bad_peer me.place id ≡ false → Hashed (seen_table t me.place p)
      taken g = seen-hashed t me.place p (fair me.place id addresses w.long w.bytes g) (made-hashed me.place id addresses g) y h

  settle-call : (head id : List ℕ) (client : Bool) (addresses : List ℕ) (answered : Bool) → Hashed (settle_call_table t me.place head id client addresses answered)
  unfolding settle_call_table settle_call after_settling settled_table
  settle-call head id client addresses answered =
      step (not (contacts_form t me.place)) _ _ (λ f. h)
      (λ f. step (bad_peer me.place head) _ _ (λ g. h)
      (λ g. step (bad_peer me.place id) _ _ (λ g. h)
      (λ g. step (not (fits t me.place (place_of head) (place_of id))) _ _ (λ f. h)
      (λ f. step client _ _ (λ c. h) (λ c. taken g)))))
    where
      p : Peer
      p = peer_of id (place_of id) addresses

      step : (c : Bool) (r s : Result Settled Refusal) → (c ≡ true → Hashed (after_settling t me.place (place_of head) p r)) → (c ≡ false → Hashed (after_settling t me.place (place_of head) p s))
          → Hashed (after_settling t me.place (place_of head) p (cond c r s))
      step = cond_ind (λ (r : Result Settled Refusal). Hashed (after_settling t me.place (place_of head) p r))

      taken : bad_peer me.place id ≡ false → Hashed (settled_table t me.place (place_of head) p answered)
      taken g = settle-hashed t me.place p (fair me.place id addresses w.long w.bytes g) (made-hashed me.place id addresses g) y h (place_of head) answered

  remove-call : (id : List ℕ) → Hashed (remove_call_table t me.place id)
  unfolding remove_call_table remove_call after_removal removed_table
  remove-call id =
      step (not (contacts_form t me.place)) _ _ (λ f. h)
      (λ f. step (bad_peer me.place id) _ _ (λ g. h) (λ g. remove-hashed t me.place (place_of id) y h))
    where
      step : (c : Bool) (r s : Result ⊤ Refusal) → (c ≡ true → Hashed (after_removal t me.place (place_of id) r)) → (c ≡ false → Hashed (after_removal t me.place (place_of id) s))
          → Hashed (after_removal t me.place (place_of id) (cond c r s))
      step = cond_ind (λ (r : Result ⊤ Refusal). Hashed (after_removal t me.place (place_of id) r))

  doubt-call : (id : List ℕ) → Hashed (doubt_call_table t me.place id)
  doubt-call id = doubt-either t me.place id (λ _ u. Hashed u) (λ _ _. h) (λ _ _. doubt-hashed t (place_of id) h)

-- ---- a message
module _ (me : Peer) (l : Lent) (y : contacts_form l.contacts me.place ≡ true) (h : Hashed l.contacts) where
  answer-hashed : (v : Who) → Known me v → (x : Result ℕ Refusal) (after : Lent) → after.contacts ≡ l.contacts → Hashed (by_answer x after me (conn_of v fresh) l).left.contacts
  unfolding contacts_after
  answer-hashed v k (Err r) after e = subst Hashed (sym e) h
  answer-hashed v k (Ok n) after e = cond_ind Hashed v.server _ _ (λ e. seen-hashed l.contacts me.place (tidied v.peer) (fair-tidied me.place v.peer k.allowed) (hashed-tidied v.peer k.hashed) y h) (λ e. h)

  dealing-hashed : (v : Who) → Known me v → (body : List ℕ) → Hashed (dealing_of me (conn_of v fresh) body l).left.contacts
  unfolding dealing_of served heard
  dealing-hashed v k body =
      let d = deal_of me v.peer body l in
      cond_ind (λ (x : Dealing). Hashed x.left.contacts) v.asking _ _ (λ e. h) (λ e. answer-hashed v k d.told d.left (deal-contacts me v.peer body l))

noted-contacts : (i at : ℕ) (x : Result Answer Refusal) (s : Option (Result Sighting Refusal)) (body : List ℕ) (l : Lent) (os : List Offer) (a : Box) → (noted i at x s body l os a).lent.contacts ≡ l.contacts
noted-contacts i at (Ok (Reply n)) s body l os a = refl
noted-contacts i at (Ok (Heard n f)) s body l os a = refl
noted-contacts i at (Err r) s body l os a = refl
noted-contacts i at (Ok More) s body l os a = refl

module _ (me : Peer) (w : Own me) where
  happens-placed : (i : ℕ) (v : Who) (a : Box) (e : Event) → Known me v → Placed me a → Hashed (happens me i v a e).lent.contacts
  happens-placed i v a (message at body) k g =
      let d = dealing me v a body in
      subst Hashed (sym (noted-contacts i at d.answer d.sight body d.left (offer_in v body) a))
      (dealing-hashed me a.lent g.good.contacts g.hashed v k body)
  happens-placed i v a (broken at r) k g = g.hashed

  -- ---- opening and ending
  opens-hashed : (id : List ℕ) (server side : Bool) (addresses : List ℕ) → is_shut (open_of me id server side addresses).conn.framing ≡ false
      → HashedPeer (open_of me id server side addresses).conn.peer
  unfolding open_of
  opens-hashed id server side addresses =
      cond_ind (λ (o : Opened). is_shut o.conn.framing ≡ false → HashedPeer o.conn.peer) (not (own_fits me) || bad_peer me.place id) _ _
      (λ e z. absurd (true≢false z)) (λ e z. made-hashed me.place id addresses (fine e))
    where
      fine : (not (own_fits me) || bad_peer me.place id) ≡ false → bad_peer me.place id ≡ false
      fine e = to-false (bad_peer me.place id) (λ b. not-both _ (or_r (not (own_fits me)) (bad_peer me.place id) b) e)

  weak : (l : Line Who) → Fine (Known me) l → Fine (Allowed me) l
  weak l f = record { form = f.form; room = f.room; peer = λ z. (f.peer z).allowed }

  end-hashed : (l : Line Who) → Fine (Known me) l → is_shut (end_conn me (conn_of l.who l.framing)).conn.framing ≡ false
      → HashedPeer (end_conn me (conn_of l.who l.framing)).conn.peer
  unfolding end_conn
  end-hashed l f =
      cond_ind (λ (e : Ended). is_shut e.conn.framing ≡ false → HashedPeer e.conn.peer) (conn_form me (conn_of l.who l.framing)) _ _
      (λ e z. absurd (true≢false (sym (ap is_shut (end-shuts l.framing f.form)) ∙ z))) (λ e z. (f.peer z).hashed)

  turn-hashed : (i : ℕ) (b : Turn) (l : Line Who) (a : Box) → Fine (Known me) l → is_shut (turning me i b l a).line.framing ≡ false → HashedPeer (turning me i b l a).line.who.peer
  turn-hashed i (box.opens id server side addresses m) l a f z = opens-hashed id server side addresses z
  turn-hashed i box.ends l a f z = end-hashed l f z

  turn-contacts : (i : ℕ) (b : Turn) (l : Line Who) (a : Box) → (turning me i b l a).shared.lent.contacts ≡ a.lent.contacts
  turn-contacts i (box.opens id server side addresses m) l a = refl
  turn-contacts i box.ends l a = refl

  -- ---- the host's other calls
  unless-own : (b : Bool) (t u : List ℕ) → Hashed t → Hashed u → Hashed (cond b u t)
  unless-own b t u h g = cond_ind Hashed b u t (λ e. g) (λ e. h)

  asking-hashed : (a : Box) (o : Ask) → Placed me a → Hashed (asking me a o).lent.contacts
  unfolding seen_after settle_after remove_after doubt_after
  asking-hashed a (box.put key value) g = g.hashed
  asking-hashed a (box.find key) g = g.hashed
  asking-hashed a (box.seen id client addresses) g = unless-own (own_fits me) _ _ g.hashed (seen-call me w a.lent.contacts g.good.contacts g.hashed id client addresses)
  asking-hashed a (box.settle head id client addresses answered) g =
      unless-own (own_fits me) _ _ g.hashed (settle-call me w a.lent.contacts g.good.contacts g.hashed head id client addresses answered)
  asking-hashed a (box.remove id) g = unless-own (own_fits me) _ _ g.hashed (remove-call me w a.lent.contacts g.good.contacts g.hashed id)
  asking-hashed a (box.doubt id) g = unless-own (own_fits me) _ _ g.hashed (doubt-call me w a.lent.contacts g.good.contacts g.hashed id)
  asking-hashed a (box.nearest key) g = g.hashed
  asking-hashed a (box.start j key limit) g = g.hashed
  asking-hashed a (box.next j) g = g.hashed
  asking-hashed a (box.reply j id body view) g = g.hashed
  asking-hashed a (box.reply_from i j id) g = g.hashed
  asking-hashed a (box.failure j id) g = g.hashed

  -- ---- so the box is a layer over such peers and such memory
  sound-placed : Sound (box.box me) (Known me) (Placed me) Fits
  sound-placed =
      let S = sound me w in
      record {
        receives = λ i l a bs f o g. receives me w i l a bs (weak l f) o g.good;
        puts = λ i p a e k g. record { good = S.puts i p a e k.allowed g.good; hashed = happens-placed i p a e k g };
        act-line = λ i b l a x f g.
            let q = S.act-line i b l a x (weak l f) g.good in
            record { form = q.form; room = q.room; peer = λ z. record { allowed = q.peer z; hashed = turn-hashed i b l a f z } };
        act-good = λ i b l a x f g.
            record { good = S.act-good i b l a x (weak l f) g.good; hashed = subst Hashed (sym (turn-contacts i b l a)) g.hashed };
        hosts = λ a o g. record { good = S.hosts a o g.good; hashed = asking-hashed a o g };
      }

  pub placed : (s : World Who Box Ask) → Ready (Known me) (Placed me) s → (cs : List (Call Turn Ask)) → AllFit Fits cs → Hashed (calls (box.box me) s cs).shared.state.lent.contacts
  placed s r cs f = (calls-ready (box.box me) sound-placed cs s r f).good.hashed
