-- What a message does, and a piece: from the parts to the whole. Assumes nothing.
use Prim.Native.Nat.{ℕ}
use mathlib.Core.Path.{◌≡◌, refl, sym, ap, ◌∙◌}
use mathlib.Core.List.{List}
use mathlib.Core.Bool.{true, false}
use lib.ListN.{length, take}
use Rattle.octets.proofs.Bools.{cond_yes, cond_no}
use Rattle.refusal.specs.declared.Refusal.{Refusal}
use Rattle.peer.specs.declared.Peer.{Peer}
use Rattle.peer.specs.Peers.{tidied}
use Rattle.sightings.specs.declared.Sighting.{Sighting}
use Rattle.sightings.specs.Sightings.{sighting_of, seen_table}
use Rattle.message.specs.declared.Fields.{Fields}
use Rattle.message.specs.View.{reading_of}
use Rattle.stream.specs.declared.Framing.{Framing}
use Rattle.stream.specs.declared.Framing.TheVariants as framing
use Rattle.stream.specs.declared.Received as framed
use Rattle.stream.specs.Stream as frames
use Rattle.replies.specs.Lent.{Lent}
use Rattle.replies.specs.Verdicts.{Dealt}
use Rattle.answer.specs.Answers.{deal_of}
use Rattle.answer.proofs.Serving.{deal-contacts}
use Rattle.replies.specs.Verdicts as answers
use Rattle.connections.specs.declared.Conn.{Conn}
use Rattle.node.specs.declared.Answer.{Answer}
use Rattle.node.specs.declared.Answer.TheVariants.{Reply, Heard, More}
use Rattle.node.specs.declared.Received.{Received}
use Rattle.connections.specs.Box.{with_framing}
use Rattle.node.specs.Node.{Link, linked, Dealing, sight_of, contacts_after, by_answer, served, heard_as, heard, dealing_of, gate_of, Out, received, by_event, taken_of, unless, receive_of, Gives, Deals}
use Rattle.node.specs.Inner.{unseen}
use Rattle.std.specs.Prelude.{Ok, Err, Some, None, Result, Option, ⊤}

-- ---- a sender that is seen
module _ (me : Peer) (c : Conn) (t : List ℕ) where
  pub client-unseen : c.server ≡ false → (None ≡ sight_of me c t) × (t ≡ contacts_after me c t)
  unfolding sight_of contacts_after
  client-unseen h = rw h (refl, refl)

  pub server-seen : (s : Result Sighting Refusal) (u : List ℕ) → c.server ≡ true → s ≡ sighting_of t me.place (tidied c.peer) → u ≡ seen_table t me.place (tidied c.peer)
      → (Some s ≡ sight_of me c t) × (u ≡ contacts_after me c t)
  unfolding sight_of contacts_after
  server-seen s u h e q = rw h (ap Some e, q)

-- ---- a refusal
pub refused-shut : (c c' : Conn) (f : Framing) (n : ℕ) (r : Refusal) (x : Received) → f ≡ framing.Shut → c' ≡ with_framing c f → x ≡ received c' n (Err r) None
    → x ≡ received (with_framing c framing.Shut) n (Err r) None
refused-shut c c' f n r x e q w = w ∙ ap (λ (z : Conn). received z n (Err r) None) (q ∙ ap (with_framing c) e)

-- ---- a message on the asking side
module _ (c : Conn) (n : ℕ) (body : List ℕ) (x : Result Fields Refusal) (e : x ≡ reading_of body) (r : Received) where
  says : (a : Result Fields Refusal) → x ≡ a → unseen c n (heard_as (length body) a) ≡ unseen c n (heard_as (length body) (reading_of body))
  says a q = ap (λ (z : Result Fields Refusal). unseen c n (heard_as (length body) z)) (sym q ∙ e)

  pub hear-whole : (f : Fields) → x ≡ Ok f → r ≡ received c n (Ok (Heard (length body) f)) None → r ≡ unseen c n (heard_as (length body) (reading_of body))
  hear-whole f q w = w ∙ says (Ok f) q

  pub hear-refused : (s : Refusal) → x ≡ Err s → r ≡ received (with_framing c framing.Shut) n (Err s) None
      → r ≡ unseen c n (heard_as (length body) (reading_of body))
  hear-refused s q w = w ∙ says (Err s) q

-- ---- a request
deals-by : (d d' : Dealing) (c : Conn) (n : ℕ) (r : Received) (t k y : List ℕ) → d ≡ d' → Deals d' c n r t k y → Deals d c n r t k y
deals-by d d' c n r t k y e h = rw e h

module _ (me : Peer) (c : Conn) (n : ℕ) (body : List ℕ) (l : Lent) (a : Result ℕ Refusal) (k' y' : List ℕ) (g : answers.Gives (deal_of me c.peer body l) a k' y') where
  abbrev d : Dealt
  d = deal_of me c.peer body l

  served-as : (b : Result ℕ Refusal) → a ≡ b → served me c body l ≡ by_answer b d.left me c l
  unfolding served
  served-as b e = ap (λ (z : Result ℕ Refusal). by_answer z d.left me c l) (sym g.told ∙ e)

  pub serve-refused : (x : Refusal) (r : Received) → a ≡ Err x → r ≡ received (with_framing c framing.Shut) n (Err x) None
      → Deals (served me c body l) c n r l.contacts k' y'
  serve-refused x r e q =
      deals-by (served me c body l) (by_answer (Err x) d.left me c l) c n r l.contacts k' y' (served-as (Err x) e)
      (record { got = q; contacts = sym (deal-contacts me c.peer body l); records = g.records; reply = g.reply })

  pub serve-replied : (x : ℕ) (s : Option (Result Sighting Refusal)) (u : List ℕ) (r : Received) → a ≡ Ok x → (s ≡ sight_of me c l.contacts) × (u ≡ contacts_after me c l.contacts)
      → r ≡ received c n (Ok (Reply x)) s → Deals (served me c body l) c n r u k' y'
  serve-replied x s u r e w q =
      deals-by (served me c body l) (by_answer (Ok x) d.left me c l) c n r u k' y' (served-as (Ok x) e)
      (record { got = q ∙ ap (received c n (Ok (Reply x))) w.0; contacts = w.1; records = g.records; reply = g.reply })

-- ---- a message
module _ (me : Peer) (c : Conn) (n : ℕ) (body : List ℕ) (l : Lent) where
  pub whole-asked : (r : Received) → c.asking ≡ true → r ≡ unseen c n (heard_as (length body) (reading_of body))
      → Deals (dealing_of me c body l) c n r l.contacts l.records l.reply
  unfolding dealing_of heard
  whole-asked r h q =
      deals-by (dealing_of me c body l) (heard body l) c n r l.contacts l.records l.reply (cond_yes c.asking (heard body l) (served me c body l) h)
      (record { got = q; contacts = refl; records = refl; reply = refl })

  pub whole-served : (r : Received) (t' k' y' : List ℕ) → c.asking ≡ false → Deals (served me c body l) c n r t' k' y' → Deals (dealing_of me c body l) c n r t' k' y'
  unfolding dealing_of
  whole-served r t' k' y' h q =
      deals-by (dealing_of me c body l) (served me c body l) c n r t' k' y' (cond_no c.asking (heard body l) (served me c body l) h) q

-- ---- a piece
gives-by : (o o' : Out) (r : Received) (m t k y : List ℕ) → o ≡ o' → Gives o' r m t k y → Gives o r m t k y
gives-by o o' r m t k y e h = rw e h

module _ (me : Peer) (link : Link) (bs : List ℕ) (l : Lent) (f : framed.Received) (m' : List ℕ) (g : frames.Gives (frames.receive_of link.conn.framing link.buffer bs) f m') (c' : Conn) (q : c' ≡ with_framing link.conn f.framing) where
  taken_as : (a : Result (Option ℕ) Refusal) → f.answer ≡ a → taken_of me link bs l ≡ by_event a me (linked c' m') f.taken l
  unfolding taken_of
  taken_as a h =
      let c = link.conn in
      let o = frames.receive_of c.framing link.buffer bs in
      ap (λ (x : framed.Received). by_event x.answer me (linked (with_framing c x.framing) o.buffer) x.taken l) (sym g.got)
      ∙ ap (λ (x : Result (Option ℕ) Refusal). by_event x me (linked (with_framing c f.framing) o.buffer) f.taken l) h
      ∙ ap (λ (x : Conn). by_event a me (linked x o.buffer) f.taken l) (sym q)
      ∙ ap (λ (x : List ℕ). by_event a me (linked c' x) f.taken l) (sym g.buffer)

  pub take-message : (n : ℕ) (r : Received) (t' k' y' : List ℕ) → f.answer ≡ Ok (Some n) → Deals (dealing_of me c' (take n m') l) c' f.taken r t' k' y'
      → Gives (taken_of me link bs l) r m' t' k' y'
  take-message n r t' k' y' h w =
      gives-by (taken_of me link bs l) _ r m' t' k' y' (taken_as (Ok (Some n)) h)
      (record { got = w.got; buffer = refl; contacts = w.contacts; records = w.records; reply = w.reply })

  pub take-refused : (x : Refusal) (r : Received) → f.answer ≡ Err x → r ≡ received (with_framing c' framing.Shut) f.taken (Err x) None
      → Gives (taken_of me link bs l) r m' l.contacts l.records l.reply
  take-refused x r h w =
      gives-by (taken_of me link bs l) _ r m' l.contacts l.records l.reply (taken_as (Err x) h)
      (record { got = w; buffer = refl; contacts = refl; records = refl; reply = refl })

  pub take_more : (r : Received) → f.answer ≡ Ok None → r ≡ received c' f.taken (Ok More) None
      → Gives (taken_of me link bs l) r m' l.contacts l.records l.reply
  take_more r h w =
      gives-by (taken_of me link bs l) _ r m' l.contacts l.records l.reply (taken_as (Ok None) h)
      (record { got = w; buffer = refl; contacts = refl; records = refl; reply = refl })

-- ---- the call
module _ (me : Peer) (link : Link) (bs : List ℕ) (l : Lent) (g : Result ⊤ Refusal) (e : g ≡ gate_of me link l) where
  gated-as : (h : Result ⊤ Refusal) → g ≡ h → receive_of me link bs l ≡ unless h link l (taken_of me link bs l)
  unfolding receive_of
  gated-as h q = ap (λ (z : Result ⊤ Refusal). unless z link l (taken_of me link bs l)) (sym e ∙ q)

  pub receive-closed : (x : Refusal) (r : Received) → g ≡ Err x → r ≡ received link.conn 0 (Err x) None
      → Gives (receive_of me link bs l) r link.buffer l.contacts l.records l.reply
  receive-closed x r q w =
      gives-by (receive_of me link bs l) _ r link.buffer l.contacts l.records l.reply (gated-as (Err x) q)
      (record { got = w; buffer = refl; contacts = refl; records = refl; reply = refl })

  pub receive-taken : (r : Received) (m' t' k' y' : List ℕ) → g ≡ Ok tt → Gives (taken_of me link bs l) r m' t' k' y' → Gives (receive_of me link bs l) r m' t' k' y'
  receive-taken r m' t' k' y' q w = gives-by (receive_of me link bs l) _ r m' t' k' y' (gated-as (Ok tt) q) w
