-- Form is kept. Assumes nothing but what is asked of the replies to requests.
use Prim.Native.Nat.{ℕ}
use mathlib.Core.Path.{◌≡◌, refl, sym, ap, ◌∙◌, subst}
use mathlib.Core.Logic.{⊎_elim}
use mathlib.Core.Bool.{Bool, true, false, cond, not, ◌||◌}
use mathlib.Core.List.{List, [], ◌∷◌}
use native.Mathlib.Omega.{arith}
use lib.ListN.{length, take}
use lib.Dec.{leb, ltb}
use borrow.Author.Tests.{le-leb, leb-true, not-true, not-false}
use Rattle.octets.specs.Octets.{same}
use Rattle.octets.specs.Search.{all_of}
use Rattle.octets.proofs.Bools.{cond_ind, cond_yes, cond_no, either, and_i, and_l, and_r, or_l, or_r, or_off, not-both, to-false, all_head, all_rest, all_none, all-one-more}
use Rattle.octets.proofs.Strings.{same-no, differ}
use Rattle.refusal.specs.declared.Refusal.{Refusal}
use Rattle.place.specs.Place.{place_of, bucket_of}
use Rattle.place.proofs.Buckets.{bucket-lt}
use Rattle.peer.specs.declared.Peer.{Peer}
use Rattle.peer.specs.Peers.{id_fits, bad_peer, peer_of, tidied}
use Rattle.peer.proofs.Meaning.{size_is, place_is, fits-least, fits-most, not-bad-id, not-bad-place}
use Rattle.contacts.specs.Form.{in_form as contacts_form}
use Rattle.records.specs.Store.{in_form as records_form}
use Rattle.sightings_kept.specs.Promises.{Fair}
use Rattle.sightings.specs.Sightings.{seen_table}
use Rattle.sightings_kept.proofs.Forms.{seen-keeps}
use Rattle.sightings_kept.proofs.Tidied.{tidied-fair}
use Rattle.stream.specs.declared.Framing.{Framing}
use Rattle.stream.specs.declared.Framing.TheVariants.{Shut, Prefix, Body}
use Rattle.stream.specs.Stream as frames
use Rattle.stream.specs.Stream.{is_shut, in_form}
use Rattle.replies.specs.Lent.{Lent}
use Rattle.connections.specs.declared.Conn.{Conn}
use Rattle.connections.specs.declared.Opened.{Opened}
use Rattle.connections.specs.declared.Ended.{Ended}
use Rattle.node.specs.declared.Answer.{Answer}
use Rattle.node.specs.declared.Answer.TheVariants.{Reply, Heard, More}
use Rattle.connections.specs.Box.{own_fits, with_framing, open_of, conn_form, end_conn}
use Rattle.node.specs.Node.{Link, Dealing, Out, shut_if, done, dealing_of, heard, contacts_after, receive_of}
use Rattle.connections.proofs.Bounds.{framing-kept, end-shuts}
use Rattle.answer_promises.proofs.Promised.{records-stay-in-form}
use Rattle.node_promises.specs.Promises.{Made, FormKept}
use Rattle.node_promises.proofs.Cases.{deal-cases, afterwards, cases}
use Rattle.std.specs.Prelude.{Ok, Err, Result}

-- ---- a connection in form, taken apart and put together
module _ (me : Peer) (c : Conn) where
  abbrev parts : List Bool
  parts = own_fits c.peer ∷ not (same c.peer.place me.place) ∷ in_form c.framing ∷ []

  pub shut-form : is_shut c.framing ≡ true → conn_form me c ≡ true
  unfolding conn_form
  shut-form h = or_l (is_shut c.framing) (all_of parts) h

  open-parts : conn_form me c ≡ true → is_shut c.framing ≡ false → all_of parts ≡ true
  unfolding conn_form
  open-parts h e = sym (or_off (is_shut c.framing) (all_of parts) e) ∙ h

  pub form-peer : conn_form me c ≡ true → is_shut c.framing ≡ false → own_fits c.peer ≡ true
  form-peer h e = all_head (own_fits c.peer) _ (open-parts h e)

  pub form-away : conn_form me c ≡ true → is_shut c.framing ≡ false → same c.peer.place me.place ≡ false
  form-away h e = not-true _ (all_head (not (same c.peer.place me.place)) _ (all_rest (own_fits c.peer) _ (open-parts h e)))

  open-framing : conn_form me c ≡ true → is_shut c.framing ≡ false → in_form c.framing ≡ true
  open-framing h e = all_head (in_form c.framing) _ (all_rest (not (same c.peer.place me.place)) _ (all_rest (own_fits c.peer) _ (open-parts h e)))

  pub form-framing : conn_form me c ≡ true → in_form c.framing ≡ true
  form-framing h = ⊎_elim (λ e. shut-in c.framing e) (λ e. open-framing h e) (either (is_shut c.framing))
    where
      shut-in : (f : Framing) → is_shut f ≡ true → in_form f ≡ true
      shut-in Shut e = refl
      shut-in (Prefix k) e = absurd (not-both false e refl)
      shut-in (Body want have) e = absurd (not-both false e refl)

  pub form_of : own_fits c.peer ≡ true → same c.peer.place me.place ≡ false → in_form c.framing ≡ true → conn_form me c ≡ true
  unfolding conn_form
  form_of p s f =
      or_r (is_shut c.framing) (all_of parts)
      (all-one-more (own_fits c.peer) _ p (all-one-more (not (same c.peer.place me.place)) _ (ap not s) (all-one-more (in_form c.framing) [] f all_none)))

-- ---- a peer that an open gives
peer-made : (id place addresses : List ℕ) → id_fits id ≡ true → own_fits (peer_of id place addresses) ≡ true
unfolding own_fits
peer-made id place addresses h =
    let p = peer_of id place addresses in
    let s = size_is id place addresses in
    let l = fits-least id h in
    let m = fits-most id h in
    and_i (leb 1 p.size) (leb p.size 64) (le-leb 1 p.size (omega arith)) (le-leb p.size 64 (omega arith))

-- ---- open
module _ (me : Peer) (id : List ℕ) (server asking : Bool) (addresses : List ℕ) where
  abbrev pub OpensWell : Opened → Type 0
  OpensWell o = conn_form me o.conn ≡ true

  pub opens-well : OpensWell (open_of me id server asking addresses)
  unfolding open_of
  opens-well =
      cond_ind OpensWell (not (own_fits me) || bad_peer me.place id) _ _ (λ h. shut-form me _ refl)
      (λ h. let b : bad_peer me.place id ≡ false = or-none (not (own_fits me)) (bad_peer me.place id) h in
      form_of me _ (peer-made id (place_of id) addresses (not-bad-id me.place id b))
      (subst (λ (x : List ℕ). same x me.place ≡ false) (sym (place_is id (place_of id) addresses)) (same-no (place_of id) me.place (not-bad-place me.place id b))) refl)
    where
      or-none : (a b : Bool) → (a || b) ≡ false → b ≡ false
      or-none true b e = absurd (not-both true refl e)
      or-none false b e = e

-- ---- end
pub closes-well : (me : Peer) (c : Conn) → conn_form me c ≡ true → conn_form me (end_conn me c).conn ≡ true
unfolding end_conn
closes-well me c h =
    subst (λ (x : Ended). conn_form me x.conn ≡ true) (sym (cond_yes (conn_form me c) _ _ h))
    (shut-form me (with_framing c (frames.end_of c.framing).framing) (ap is_shut (end-shuts c.framing (form-framing me c h))))

-- ---- receive: the connection
module _ (me : Peer) (link : Link) (bs : List ℕ) (l : Lent) where
  abbrev pub InForm : Out → Type 0
  InForm o = conn_form me o.got.conn ≡ true

  shut-kept : (c' : Conn) (a : Result Answer Refusal) → conn_form me c' ≡ true → conn_form me (shut_if a c') ≡ true
  shut-kept c' (Ok (Reply n)) h = h
  shut-kept c' (Ok (Heard n f)) h = h
  shut-kept c' (Err r) h = shut-form me (with_framing c' Shut) refl
  shut-kept c' (Ok More) h = h

  -- a shut connection takes no bytes
  shut-stays : (f : Framing) → is_shut f ≡ true → (frames.receive_of f link.buffer bs).got.framing ≡ f
  unfolding frames.receive_of
  shut-stays Shut e =
      cond_ind (λ (o : frames.Out). o.got.framing ≡ Shut) (ltb (length link.buffer) 16384) _ _ (λ h. refl) (λ h. refl)
  shut-stays (Prefix h) e = absurd (not-both false e refl)
  shut-stays (Body want have) e = absurd (not-both false e refl)

  after-form : conn_form me link.conn ≡ true → conn_form me (afterwards me link bs l) ≡ true
  after-form h =
      ⊎_elim (λ e. shut-form me (afterwards me link bs l) (ap is_shut (shut-stays link.conn.framing e) ∙ e))
      (λ e. form_of me (afterwards me link bs l) (form-peer me link.conn h e) (form-away me link.conn h e) (framing-kept link.conn.framing link.buffer bs (form-framing me link.conn h)))
      (either (is_shut link.conn.framing))

  pub receives-well : conn_form me link.conn ≡ true → InForm (receive_of me link bs l)
  receives-well h =
      cases me link bs l InForm (λ s g. h) (λ g n. shut-kept _ (dealing_of me (afterwards me link bs l) (take n (frames.receive_of link.conn.framing link.buffer bs).buffer) l).answer (after-form h)) (λ g x. shut-kept _ (Err x) (after-form h)) (λ g. shut-kept _ (Ok More) (after-form h))

-- ---- receive: the contacts
fair : (me : Peer) (p : Peer) → Made me → Made p → own_fits p ≡ true → same p.place me.place ≡ false → Fair me.place (tidied p)
unfolding own_fits
fair me p a b h s =
    tidied-fair me.place p (leb-true 1 p.size (and_l (leb 1 p.size) _ h)) (leb-true p.size 64 (and_r (leb 1 p.size) _ h))
    (bucket-lt p.place me.place b.place_long a.place_long b.place_bytes a.place_bytes (differ p.place me.place s))
    b.place_long b.id_long b.addrs_long

module _ (me : Peer) (link : Link) (bs : List ℕ) (l : Lent) (a : Made me) (b : Made link.conn.peer) (h : conn_form me link.conn ≡ true) (e : is_shut link.conn.framing ≡ false) (f : contacts_form l.contacts me.place ≡ true) where
  seen-form : contacts_form (contacts_after me (afterwards me link bs l) l.contacts) me.place ≡ true
  unfolding contacts_after
  seen-form =
      cond_ind (λ (x : List ℕ). contacts_form x me.place ≡ true) link.conn.server (seen_table l.contacts me.place (tidied link.conn.peer)) l.contacts
      (λ s. seen-keeps l.contacts me.place (tidied link.conn.peer) (fair me link.conn.peer a b (form-peer me link.conn h e) (form-away me link.conn h e)) f) (λ s. f)

  abbrev pub Contacts : Out → Type 0
  Contacts o = contacts_form o.left.contacts me.place ≡ true

  abbrev pub DealContacts : Dealing → Type 0
  DealContacts d = contacts_form d.left.contacts me.place ≡ true

  deal-contacts : (body : List ℕ) → DealContacts (dealing_of me (afterwards me link bs l) body l)
  unfolding heard
  deal-contacts body = deal-cases me (afterwards me link bs l) body l DealContacts f (λ x. f) (λ n. seen-form)

  pub contacts-kept : Contacts (receive_of me link bs l)
  contacts-kept = cases me link bs l Contacts (λ s g. f) (λ g n. deal-contacts _) (λ g x. f) (λ g. f)

-- ---- receive: the records
module _ (me : Peer) (link : Link) (bs : List ℕ) (l : Lent) (f : records_form l.records ≡ true) where
  abbrev pub Records : Out → Type 0
  Records o = records_form o.left.records ≡ true

  abbrev pub DealRecords : Dealing → Type 0
  DealRecords d = records_form d.left.records ≡ true

  deal-records : (c' : Conn) (body : List ℕ) → DealRecords (dealing_of me c' body l)
  unfolding heard
  deal-records c' body = deal-cases me c' body l DealRecords f (λ x. f) (λ n. records-stay-in-form me c'.peer body l f)

  pub records-kept : Records (receive_of me link bs l)
  records-kept = cases me link bs l Records (λ s g. f) (λ g n. deal-records _ _) (λ g x. f) (λ g. f)

pub form-kept : FormKept
form-kept = record { opens = opens-well; closes = closes-well; receives = receives-well; contacts = contacts-kept; records = records-kept }
