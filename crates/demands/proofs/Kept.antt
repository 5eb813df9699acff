-- What messages, openings, ends and host calls keep: memory in form, the reply buffer's room, and that the store is what the offers made of it.
use Prim.Native.Nat.{ℕ, ◌≤◌}
use mathlib.Core.Path.{◌≡◌, refl, sym, ap, ◌∙◌, subst}
use mathlib.Core.Bool.{Bool, true, false, cond}
use mathlib.Core.List.{List, [], ◌∷◌, ◌++◌, append_assoc}
use native.Mathlib.Omega.{arith}
use lib.ListN.{length}
use Rattle.octets.proofs.Bools.{cond_ind}
use Rattle.limits.specs.Limits.{least_reply}
use Rattle.peer.specs.declared.Peer.{Peer}
use Rattle.peer.specs.Peers.{tidied}
use Rattle.contacts.specs.Form.{in_form as contacts_form}
use Rattle.records.specs.Store.{in_form as records_form}
use Rattle.records_history.specs.History.{Offer, offered, after}
use Rattle.records_history.proofs.Stays.{form-kept, put-form}
use Rattle.sightings_kept.specs.Promises.{Fair}
use Rattle.sightings_kept.proofs.Forms.{seen-keeps}
use Rattle.sightings_kept.proofs.Tidied.{fair-tidied}
use Rattle.contact_calls.specs.Calls.{seen_call_table, settle_call_table, remove_call_table, doubt_call_table}
use Rattle.contact_calls.proofs.Theorems.{seen-call-keeps, settle-call-keeps, remove-call-keeps}
use Rattle.contact_calls.proofs.Doubts.{doubt-form}
use Rattle.message.specs.Message.{message_of}
use Rattle.message.specs.View.{reading_of}
use Rattle.stream.specs.Stream.{fresh}
use Rattle.cutting.specs.Frames.{Event, message, refused as broken}
use Rattle.cutting.specs.World.{Line}
use Rattle.replies.specs.Lent.{Lent}
use Rattle.replies.specs.Verdicts.{Dealt}
use Rattle.answer.specs.Answers.{deal_of}
use Rattle.connections.specs.declared.Conn.{Conn}
use Rattle.node.specs.declared.Answer.{Answer}
use Rattle.node.specs.declared.Answer.TheVariants.{Reply, Heard, More}
use Rattle.connections.specs.Box.{own_fits}
use Rattle.node.specs.Node.{Dealing, contacts_after, by_answer, served, heard, dealing_of}
use Rattle.host_calls.specs.Hosts.{seen_after, settle_after, remove_after, doubt_after}
use Rattle.demands.specs.Box as box
use Rattle.demands.specs.Box.{Box, Who, conn_of, offer_by, offer_in, noted, Turn, Ask, dealing, happens, turning, asking, Own, Allowed, Good}
use Rattle.demands.proofs.Deal.{Leaves, deal-leaves}
use Rattle.std.specs.Prelude.{Ok, Err, Result, Option}
use Rattle.refusal.specs.declared.Refusal.{Refusal}
use Rattle.sightings.specs.declared.Sighting.{Sighting}

pub after_more : (k : List ℕ) (os ps : List Offer) → after k (os ++ ps) ≡ after (after k os) ps
unfolding after
after_more k [] ps = refl
after_more k (o ∷ os) ps = after_more (offered k o) os ps

-- a fact of a store and of the offers so far, which more offers keep
pub record Lasting (Q : List ℕ → List Offer → Type 0) : Type 0 where
  pub on : (k : List ℕ) (os ps : List Offer) → Q k os → Q (after k ps) (os ++ ps)

-- more was offered since `before`, and the store is what that made of the store k
abbrev pub MadeSince : List ℕ → List Offer → List ℕ → List Offer → Type 0
MadeSince k before now os = (ps : List Offer) × (os ≡ before ++ ps) × (now ≡ after k ps)

pub made-lasting : (k : List ℕ) (before : List Offer) → Lasting (MadeSince k before)
made-lasting k before =
    record {
      on = λ now os ps h. (
        h.0 ++ ps,
        ap (λ (x : List Offer). x ++ ps) h.1 ∙ append_assoc before h.0 ps,
        ap (λ (x : List ℕ). after x ps) h.2 ∙ sym (after_more k h.0 ps),
      );
    }

-- memory in form and room for a reply, and such a fact
pub record Held (me : Peer) (Q : List ℕ → List Offer → Type 0) (a : Box) : Type 0 where
  pub good : Good me a
  pub offers : Q a.lent.records a.offers

module _ (me : Peer) (Q : List ℕ → List Offer → Type 0) (L : Lasting Q) where
  -- ---- a message
  -- what it leaves of what was lent
  pub record Keeps (l : Lent) (os : List Offer) (d : Dealing) : Type 0 where
    pub contacts : contacts_form d.left.contacts me.place ≡ true
    pub records : d.left.records ≡ after l.records os
    pub room : length d.left.reply ≡ length l.reply

  seen-after : (c : Conn) (t : List ℕ) → Fair me.place c.peer → contacts_form t me.place ≡ true → contacts_form (contacts_after me c t) me.place ≡ true
  unfolding contacts_after
  seen-after c t p h = cond_ind (λ (x : List ℕ). contacts_form x me.place ≡ true) c.server _ _ (λ e. seen-keeps t me.place (tidied c.peer) (fair-tidied me.place c.peer p) h) (λ e. h)

  answer_keeps : (x : Result ℕ Refusal) (d : Dealt) (c : Conn) (l : Lent) (os : List Offer) → Fair me.place c.peer → contacts_form l.contacts me.place ≡ true
      → records_form l.records ≡ true → Leaves l os d → Keeps l os (by_answer x d.left me c l)
  answer_keeps (Err r) d c l os p h g q =
      record { contacts = ap (λ (t : List ℕ). contacts_form t me.place) q.contacts ∙ h; records = q.offers g; room = q.room }
  answer_keeps (Ok n) d c l os p h g q = record { contacts = seen-after c l.contacts p h; records = q.offers g; room = q.room }

  pub dealing-keeps : (w : Who) (a : Box) (body : List ℕ) → Allowed me w → Good me a → Keeps a.lent (offer_in w body) (dealing me w a body)
  unfolding dealing_of served heard after
  dealing-keeps w a body p g = go w.asking
    where
      d : Dealt
      d = deal_of me w.peer body a.lent

      os : List Offer
      os = offer_by (reading_of body) (message_of body) (message_of body).held

      go : (b : Bool)
          → Keeps a.lent (cond b [] os) (cond b (heard body a.lent) (by_answer d.told d.left me (conn_of w fresh) a.lent))
      go true = record { contacts = g.contacts; records = refl; room = refl }
      go false =
          answer_keeps d.told d (conn_of w fresh) a.lent os p g.contacts g.records
          (deal-leaves me w.peer body a.lent)

  -- a line of the log more
  logs : (a : Box) (e : box.Entry) → Held me Q a → Held me Q (box.logged a e)
  logs a e h = record { good = record { contacts = h.good.contacts; records = h.good.records; room = h.good.room }; offers = h.offers }

  noted-held : (i at : ℕ) (x : Result Answer Refusal) (s : Option (Result Sighting Refusal)) (body : List ℕ) (l : Lent) (os : List Offer) (a : Box) → contacts_form l.contacts me.place ≡ true
      → records_form l.records ≡ true → least_reply ≤ length l.reply → Q l.records (a.offers ++ os) → Held me Q (noted i at x s body l os a)
  noted-held i at (Ok (Reply n)) s body l os a c r m e = record { good = record { contacts = c; records = r; room = m }; offers = e }
  noted-held i at (Ok (Heard n f)) s body l os a c r m e = record { good = record { contacts = c; records = r; room = m }; offers = e }
  noted-held i at (Err q) s body l os a c r m e = record { good = record { contacts = c; records = r; room = m }; offers = e }
  noted-held i at (Ok More) s body l os a c r m e = record { good = record { contacts = c; records = r; room = m }; offers = e }

  pub happens-held : (i : ℕ) (w : Who) (a : Box) (e : Event) → Allowed me w → Held me Q a → Held me Q (happens me i w a e)
  happens-held i w a (message at body) p h =
      let d = dealing me w a body in
      let q = dealing-keeps w a body p h.good in
      noted-held i at d.answer d.sight body d.left (offer_in w body) a q.contacts
      (ap records_form q.records ∙ form-kept a.lent.records (offer_in w body) h.good.records)
      (let m : least_reply ≤ length a.lent.reply = h.good.room in omega (arith, q.room, m))
      (subst (λ (x : List ℕ). Q x (a.offers ++ offer_in w body)) (sym q.records) (L.on a.lent.records a.offers (offer_in w body) h.offers))
  happens-held i w a (broken at r) p h = logs a _ h

  -- ---- opening, ending
  pub turning-held : (i : ℕ) (b : Turn) (l : Line Who) (a : Box) → Held me Q a → Held me Q (turning me i b l a).shared
  turning-held i (box.opens id server side addresses m) l a h = logs a _ h
  turning-held i box.ends l a h = logs a _ h

  -- ---- the host's other calls
  with-contacts : (a : Box) (t : List ℕ) (e : box.Entry) → contacts_form t me.place ≡ true → Held me Q a → Held me Q (box.logged (box.with_contacts a t) e)
  with-contacts a t e c h = record { good = record { contacts = c; records = h.good.records; room = h.good.room }; offers = h.offers }

  unless-ours : (b : Bool) (t u : List ℕ) → contacts_form t me.place ≡ true → contacts_form u me.place ≡ true → contacts_form (cond b u t) me.place ≡ true
  unless-ours b t u h g = cond_ind (λ (x : List ℕ). contacts_form x me.place ≡ true) b u t (λ e. g) (λ e. h)

  same_memory : (a : Box) (j : ℕ) (s : _) → Held me Q a → Held me Q (box.stepping me j s a)
  same_memory a j s h = record { good = record { contacts = h.good.contacts; records = h.good.records; room = h.good.room }; offers = h.offers }

  pub asking-held : Own me → (a : Box) (o : Ask) → Held me Q a → Held me Q (asking me a o)
  unfolding seen_after settle_after remove_after doubt_after after offered
  asking-held w a (box.put key value) h =
      record {
        good = record { contacts = h.good.contacts; records = put-form a.lent.records key value h.good.records; room = h.good.room };
        offers = L.on a.lent.records a.offers (record { key = key; value = value } ∷ []) h.offers;
      }
  asking-held w a (box.find key) h = logs a _ h
  asking-held w a (box.seen id client addresses) h =
      with-contacts a _ _
      (unless-ours (own_fits me) a.lent.contacts (seen_call_table a.lent.contacts me.place id client addresses) h.good.contacts
      (seen-call-keeps a.lent.contacts me.place w.long w.bytes h.good.contacts id client addresses)) h
  asking-held w a (box.settle head id client addresses answered) h =
      with-contacts a _ _
      (unless-ours (own_fits me) a.lent.contacts (settle_call_table a.lent.contacts me.place head id client addresses answered) h.good.contacts
      (settle-call-keeps a.lent.contacts me.place w.long w.bytes h.good.contacts head id client addresses answered)) h
  asking-held w a (box.remove id) h =
      with-contacts a _ _
      (unless-ours (own_fits me) a.lent.contacts (remove_call_table a.lent.contacts me.place id) h.good.contacts
      (remove-call-keeps a.lent.contacts me.place w.long w.bytes h.good.contacts id)) h
  asking-held w a (box.doubt id) h =
      with-contacts a _ _
      (unless-ours (own_fits me) a.lent.contacts (doubt_call_table a.lent.contacts me.place id) h.good.contacts
      (doubt-form a.lent.contacts me.place id h.good.contacts)) h
  asking-held w a (box.nearest key) h = logs a _ h
  asking-held w a (box.start j key limit) h = same_memory a j _ h
  asking-held w a (box.next j) h = same_memory a j _ h
  asking-held w a (box.reply j id body view) h = same_memory a j _ h
  asking-held w a (box.reply_from i j id) h = same_memory a j _ h
  asking-held w a (box.failure j id) h = same_memory a j _ h
