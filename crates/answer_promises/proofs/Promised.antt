-- The promises of the answers. Assumes nothing.
use Prim.Native.Nat.{ℕ, ◌+◌, ◌-◌, ◌*◌, ◌≤◌}
use mathlib.Core.Path.{◌≡◌, refl, sym, ap, ap₂, ◌∙◌}
use mathlib.Core.Bool.{Bool, true, false, cond, not}
use mathlib.Core.List.{List, [], ◌∷◌, ◌++◌, map}
use native.Mathlib.Omega.{arith}
use lib.ListN.{length, take, length-append, length-map}
use lib.Seq.{sets}
use lib.Dec.{leb, ltb, eqb}
use borrow.Author.Tests.{le-leb, leb-true, le-ltb}
use Rattle.octets.specs.Octets.{part, same}
use Rattle.octets.specs.Search.{every}
use Rattle.octets.proofs.Bools.{cond_ind, and_i, and_r, all_none, all-one-more}
use Rattle.octets.proofs.Searching.{every-nil, every-cons, every_append}
use Rattle.octets.proofs.Stores.{drop-sets, part-sets}
use Rattle.octets.proofs.Strings.{same-yes}
use Rattle.limits.specs.Limits.{most_id, most_key, most_body, least_reply, most_kind}
use Rattle.place.specs.Place.{place_of}
use Rattle.contacts.specs.Table.{slot}
use Rattle.contacts.specs.Near.{nearest_slots}
use Rattle.refusal.specs.declared.Refusal.{Refusal}
use Rattle.refusal.specs.declared.Refusal.TheVariants.{Malformed, UnknownType}
use Rattle.peer.specs.declared.Peer as peers
use Rattle.peer.specs.Peers.{id_fits}
use Rattle.peer.proofs.Meaning.{id-whole}
use Rattle.peer.proofs.Tidy.{made-usable}
use Rattle.records.specs.Store.{in_form, found, offer_answer, offer_after, put_answer, put_after as put_into}
use Rattle.record_slots.proofs.Laying.{key-least, key-most}
use Rattle.records_history.specs.History.{got}
use Rattle.records_history.proofs.Stays.{offer-form, put_is, put-form as put-kept}
use Rattle.records_history.proofs.Holding.{held-key, held_found}
use Rattle.records_history.proofs.Longer.{taken-form, taken-got, refused-before}
use Rattle.wire.specs.Items.{num, minimal, written, written1, single, repeated}
use Rattle.wire_put.proofs.Digits.{minimal-one, minimal-three}
use Rattle.wire_put.proofs.Putting.{number-length, single-full, bytes-short}
use Rattle.message.specs.Message.{Peer, Record, Message, message_of, well_message, decode, encode_peer, held_items, encode, frame}
use Rattle.pieces.specs.Writable.{peer_fits, held_fits, record_with, writable}
use Rattle.message.specs.View.{fields_of, reading_of}
use Rattle.pieces.proofs.Sizes.{message-length, held-most, entries-most, echo-most}
use Rattle.message.proofs.Meaning.{kind-meant}
use Rattle.round_trip.proofs.RoundTrip.{round_trip}
use Rattle.message.specs.Kinds.{put_value, get_value, find_node, ping, key_fits}
use Rattle.replies.specs.Replies.{closer_peers, listed, last_entry, find_node_reply, record_at, get_value_reply, put_value_reply, ping_reply}
use Rattle.entries.specs.Entries.{contact_entry, peer_entry}
use Rattle.replies.specs.Lent.{Lent, with_records}
use Rattle.replies.specs.Verdicts.{Verdict, replies, refuses, keyed, echoed, put_verdict, put_after, Dealt, refused, replied, by_verdict}
use Rattle.answer.specs.Answers.{verdict_of, records_after, by_request, by_reading, deal_of}
use Rattle.answer.proofs.Serving.{deal-contacts}
use Rattle.answer_promises.specs.Promises.{RefusedChangesNothing, ReadsBack, Roomed, RepliesReadBack, AnsweredByVerdict, AnsweredByFields, SentAsTyped, Serves, HeldIsServed, GivenWhole, RefusedWhenSent, EntryIsPeer, ContactsStay, RecordsStayInForm}
use Rattle.entries.proofs.Entries.{entry-fits}
use Rattle.replies.proofs.Runs.{entries_fit}
use Rattle.replies.proofs.Whole.{record-fits, nearest-few}
use Rattle.replies.proofs.Serving.{held-lies, value-short, taken-fits}
use Rattle.answer_promises.proofs.Shown.{shows-record}
use Rattle.pieces.specs.Sizes.{most_peer_field, most_record_field, most_echo, most_reply}
use Rattle.std.specs.Prelude.{Ok, Err, Some, None, Result, Option, ⊤}
use Rattle.message.specs.declared.Fields.{Fields}
use Rattle.records.specs.declared.Held.{Held}

-- ---- a refusal
verdict-refused : (v : Verdict) (after l : Lent) (r : Refusal) → (by_verdict v after l).told ≡ Err r → (by_verdict v after l).left ≡ l
verdict-refused (replies m) after l r e = absurd (let z : ◌≡◌ {A = ℕ} 0 1 = cc in omega arith)
verdict-refused (refuses f) after l r e = refl

reading-refused : (a : Result Fields Refusal) (me who : peers.Peer) (m : Message) (l : Lent) (r : Refusal) → (by_reading a me who m l).told ≡ Err r → (by_reading a me who m l).left ≡ l
reading-refused (Err f) me who m l r e = refl
reading-refused (Ok f) me who m l r e = verdict-refused (verdict_of me who m l) (with_records l (records_after m l.records)) l r e

pub refused-changes-nothing : RefusedChangesNothing
unfolding deal_of
refused-changes-nothing me who body l r e = reading-refused (reading_of body) me who (message_of body) l r e

-- ---- the records
put-form : (key : List ℕ) (held : Option Record) (k : List ℕ) → in_form k ≡ true → in_form (put_after key held k) ≡ true
unfolding put_after
put-form key None k f = f
put-form key (Some r) k f =
    cond_ind (λ (x : List ℕ). in_form x ≡ true) (same r.key key) (offer_after k key r.value) k (λ e. offer-form k key r.value f) (λ e. f)

after-form : (m : Message) (k : List ℕ) → in_form k ≡ true → in_form (records_after m k) ≡ true
unfolding records_after
after-form m k f = cond_ind (λ (x : List ℕ). in_form x ≡ true) (eqb m.kind put_value) (put_after m.key m.held k) k (λ e. put-form m.key m.held k f) (λ e. f)

verdict-form : (v : Verdict) (after l : Lent) → in_form l.records ≡ true → in_form after.records ≡ true → in_form (by_verdict v after l).left.records ≡ true
verdict-form (replies m) after l f g = g
verdict-form (refuses r) after l f g = f

reading-form : (a : Result Fields Refusal) (me who : peers.Peer) (m : Message) (l : Lent) → in_form l.records ≡ true → in_form (by_reading a me who m l).left.records ≡ true
reading-form (Err f) me who m l h = h
reading-form (Ok f) me who m l h = verdict-form (verdict_of me who m l) (with_records l (records_after m l.records)) l h (after-form m l.records h)

pub contacts-stay : ContactsStay
contacts-stay me who body l = deal-contacts me who body l

pub records-stay-in-form : RecordsStayInForm
unfolding deal_of
records-stay-in-form me who body l h = reading-form (reading_of body) me who (message_of body) l h

-- ---- the entry of a peer
pub entry-is-peer : EntryIsPeer
unfolding peer_entry id_fits
entry-is-peer id place addresses e = (
  id-whole id place addresses (leb-true (length id) most_id (and_r (leb 1 (length id)) (leb (length id) most_id) e)),
  made-usable id place addresses,
)

-- ---- replies are within the limits
record Good (m : Message) : Type 0 where
  pub fits : writable m ≡ true
  pub short : length (encode m) ≤ most_reply

two_bytes : (kind : ℕ) → kind ≤ 5 → length (written1 (num 1 kind)) ≡ 2
two_bytes kind h = omega (arith, number-length 1 kind (omega arith), minimal-one kind (omega arith))

good : (m : Message) → m.kind ≤ 5 → length m.key ≤ 128 → held_fits m.held ≡ true → every peer_fits m.closer ≡ true → m.providers ≡ [] → length (encode m) ≤ most_reply → Good m
unfolding writable
good m k l h c p b =
    let q : every peer_fits m.providers ≡ true = rw p (every-nil peer_fits) in
    let z : leb (length (encode m)) most_body ≡ true = le-leb (length (encode m)) most_body (omega arith) in
    record {
      fits = all-one-more _ _ (le-leb _ _ k) (all-one-more _ _ (le-leb _ _ l) (all-one-more _ _ h (all-one-more _ _ c (all-one-more _ _ q (all-one-more _ _ z all_none)))));
      short = b;
    }

-- the size of a reply with no key: type, record and closer peers
size_of : (m : Message) → m.kind ≤ 5 → m.key ≡ [] → every peer_fits m.closer ≡ true → m.providers ≡ []
    → length (encode m) ≤ 2 + length (written (held_items m.held)) + most_peer_field * length m.closer
unfolding single repeated written
size_of m k ek c ep =
    let b : length (written (single 2 m.key)) ≡ 0 = rw ek in
    let e : length (written (repeated 9 (map encode_peer m.providers))) ≡ 0 = rw ep in
    omega (arith, message-length m, two_bytes m.kind k, entries-most 8 m.closer (omega arith) c)

no-held : length (written (held_items None)) ≡ 0
unfolding held_items written
no-held = refl

good-ping : Good ping_reply
unfolding ping_reply held_fits
good-ping = good ping_reply (omega arith) (omega arith) refl (every-nil peer_fits) refl (omega (arith, size_of ping_reply (omega arith) refl (every-nil peer_fits) refl, no-held))

closer-fit : (t x : List ℕ) → every peer_fits (closer_peers t x) ≡ true
unfolding closer_peers
closer-fit t x = entries_fit t [] (nearest_slots t x)

closer-few : (t x : List ℕ) → length (closer_peers t x) ≤ 20
unfolding closer_peers
closer-few t x = omega (arith, length-map (nearest_slots t x) (λ i. contact_entry (slot t i)), nearest-few t x)

module _ (me who : peers.Peer) (h : Roomed me) (g : Roomed who) (t : List ℕ) where
  LastGood : List Peer → Type 0
  LastGood l = (every peer_fits l ≡ true) × (length l ≤ 1)

  last-good : (x : List ℕ) → LastGood (last_entry me who t x)
  unfolding last_entry LastGood
  last-good x =
      cond_ind LastGood (listed t x) [] _ (λ e. empty)
      (λ e. cond_ind LastGood (same x me.place) (peer_entry me ∷ []) _ (λ q. one me h)
      (λ q. cond_ind LastGood (same x who.place) (peer_entry who ∷ []) [] (λ w. one who g) (λ w. empty)))
    where
      empty : (every peer_fits [] ≡ true) × (length {A = Peer} [] ≤ 1)
      empty = (every-nil peer_fits, omega arith)

      one : (p : peers.Peer) → Roomed p → (every peer_fits (peer_entry p ∷ []) ≡ true) × (length (peer_entry p ∷ []) ≤ 1)
      one p r = (every-cons peer_fits (peer_entry p) [] (entry-fits p r) (every-nil peer_fits), omega arith)

  good-find : (key : List ℕ) → Good (find_node_reply me who t key)
  unfolding find_node_reply held_fits LastGood
  good-find key =
      let w = last-good (place_of key) in
      let f : every peer_fits (closer_peers t (place_of key) ++ last_entry me who t (place_of key)) ≡ true = every_append peer_fits (closer_peers t (place_of key)) (last_entry me who t (place_of key)) (closer-fit t (place_of key)) w.0 in
      good (find_node_reply me who t key) (omega arith) (omega arith) refl f refl
      (omega (arith, size_of (find_node_reply me who t key) (omega arith) refl f refl, no-held, length-append (closer_peers t (place_of key)) (last_entry me who t (place_of key)), closer-few t (place_of key), w.1))

record-good : (k key : List ℕ) → length key ≤ 128 → (f : Result (Option Held) Refusal) → found k key ≡ f → held_fits (record_at k key f) ≡ true
unfolding held_fits
record-good k key h (Ok (Some p)) e = unfold record_with in record-fits key (part k p.start p.end) h (value-short k key p.start p.end (held-lies k key p.start p.end e))
record-good k key h (Ok None) e = refl
record-good k key h (Err r) e = refl

good-get : (t k key : List ℕ) → length key ≤ 128 → Good (get_value_reply t k key)
unfolding get_value_reply
good-get t k key h =
    let r = record-good k key h (found k key) refl in
    let f = closer-fit t (place_of key) in
    good (get_value_reply t k key) (omega arith) (omega arith) r f refl
    (omega (arith, size_of (get_value_reply t k key) (omega arith) refl f refl, held-most (record_at k key (found k key)) r, closer-few t (place_of key)))

no-entries : (f : ℕ) → length (written (repeated f (map encode_peer []))) ≡ 0
unfolding repeated written
no-entries f = refl

good-put : (k key value : List ℕ) → offer_answer k key value ≡ Ok tt → Good (put_value_reply key value)
unfolding put_value_reply held_fits record_with
good-put k key value e =
    let f = taken-fits k key value e in
    let r : held_fits (put_value_reply key value).held ≡ true = record-fits key value f.1 f.2 in
    let b : length (written (single 2 key)) ≤ 131 = rw (single-full 2 key (λ z. omega (arith, f.0))) (omega (arith, f.1, bytes-short 2 key (omega arith) (omega (arith, f.1)))) in
    let h : length (written (held_items (put_value_reply key value).held)) ≤ most_record_field = held-most (put_value_reply key value).held r in
    good (put_value_reply key value) (omega arith) f.1 r (every-nil peer_fits) refl
    (omega (arith, message-length (put_value_reply key value), two_bytes 0 (omega arith), no-entries 8, no-entries 9))

-- ---- every verdict that replies
abbrev GoodVerdict : Verdict → Type 0
GoodVerdict (replies m) = Good m
GoodVerdict (refuses r) = Unit {0}

echoed-good : (k key value : List ℕ) (a : Result ⊤ Refusal) → offer_answer k key value ≡ a → GoodVerdict (echoed a (put_value_reply key value))
echoed-good k key value (Ok tt) e = good-put k key value e
echoed-good k key value (Err r) e = tt

put-good : (key : List ℕ) (held : Option Record) (k : List ℕ) → GoodVerdict (put_verdict key held k)
unfolding put_verdict
put-good key None k = tt
put-good key (Some r) k = cond_ind GoodVerdict (same r.key key) _ _ (λ e. echoed-good k key r.value (offer_answer k key r.value) refl) (λ e. tt)

keyed-good : (key : List ℕ) (m : Message) → (length key ≤ 128 → Good m) → GoodVerdict (keyed key m)
unfolding keyed key_fits
keyed-good key m g = cond_ind GoodVerdict (key_fits key) _ _ (λ e. g (leb-true (length key) most_key (and_r (leb 1 (length key)) (leb (length key) most_key) e))) (λ e. tt)

verdict-good : (me who : peers.Peer) → Roomed me → Roomed who → (m : Message) (l : Lent) → GoodVerdict (verdict_of me who m l)
unfolding verdict_of
verdict-good me who h g m l =
    cond_ind GoodVerdict (eqb m.kind put_value) _ _ (λ e. put-good m.key m.held l.records)
    (λ e. cond_ind GoodVerdict (eqb m.kind get_value) _ _ (λ e. keyed-good m.key (get_value_reply l.contacts l.records m.key) (good-get l.contacts l.records m.key))
    (λ e. cond_ind GoodVerdict (eqb m.kind find_node) _ _ (λ e. keyed-good m.key (find_node_reply me who l.contacts m.key) (λ w. good-find me who h g l.contacts m.key))
    (λ e. cond_ind GoodVerdict (eqb m.kind ping) _ _ (λ e. good-ping) (λ e. tt))))

frame-short : (m : Message) → length (encode m) ≤ most_reply → length (frame (encode m)) ≤ least_reply
unfolding frame
frame-short m h = omega (arith, length-append (minimal (length (encode m))) (encode m), minimal-three (length (encode m)) (omega arith))

replied-back : (m : Message) (l : Lent) (n : ℕ) → Good m → least_reply ≤ length l.reply → (replied m l).told ≡ Ok n → ReadsBack (replies m) (replied m l) l.reply n
replied-back m l n g w e =
    let y = l.reply in
    let q : length (frame (encode m)) ≡ n = cc in
    let f = frame-short m g.short in
    let z : 0 + length (frame (encode m)) - 0 ≡ n = omega arith in
    record {
      says = m;
      verdict = refl;
      fits = g.fits;
      size = sym q;
      stands = sym (ap (λ (i : ℕ). take i (sets y 0 (frame (encode m)))) z) ∙ part-sets y 0 (frame (encode m)) (omega arith);
      back = round_trip m g.fits;
      short = g.short;
      rest = drop-sets n y 0 (frame (encode m)) (omega arith);
    }

verdict-back : (v : Verdict) (l : Lent) (k : List ℕ) (n : ℕ) → GoodVerdict v → least_reply ≤ length l.reply → (by_verdict v (with_records l k) l).told ≡ Ok n
    → ReadsBack v (by_verdict v (with_records l k) l) l.reply n
verdict-back (replies m) l k n g w e = replied-back m (with_records l k) n g w e
verdict-back (refuses r) l k n g w e = absurd (let z : ◌≡◌ {A = ℕ} 0 1 = cc in omega arith)

reading-back : (a : Result Fields Refusal) (me who : peers.Peer) → Roomed me → Roomed who → (m : Message) (l : Lent) (n : ℕ) → least_reply ≤ length l.reply → (by_reading a me who m l).told ≡ Ok n
    → ReadsBack (verdict_of me who m l) (by_reading a me who m l) l.reply n
reading-back (Err r) me who h g m l n w e = absurd (let z : ◌≡◌ {A = ℕ} 0 1 = cc in omega arith)
reading-back (Ok f) me who h g m l n w e = verdict-back (verdict_of me who m l) l (records_after m l.records) n (verdict-good me who h g m l) w e

pub replies-read-back : RepliesReadBack
unfolding deal_of
replies-read-back me who h g body l w n e = reading-back (reading_of body) me who h g (message_of body) l n w e

-- ---- what a body says
module _ (me who : peers.Peer) (l : Lent) where
  by_decoding : Option Message → Dealt
  by_decoding None = refused Malformed l
  by_decoding (Some m) = cond (ltb most_kind m.kind) (refused UnknownType l) (by_request me who m l)

  decoded : (s : List ℕ) → length s ≤ most_body → deal_of me who s l ≡ by_decoding (decode s)
  unfolding deal_of reading_of decode by_decoding
  decoded s w = rw (le-ltb most_body (length s) w) (go (well_message s) (ltb most_kind (fields_of s).kind) (ap (ltb most_kind) (sym (kind-meant s))))
    where
      go : (w u : Bool) → ltb most_kind (message_of s).kind ≡ u
          → by_reading (cond (not w) (Err Malformed) (cond u (Err UnknownType) (Ok (fields_of s)))) me who (message_of s) l
          ≡ by_decoding (cond w (Some (message_of s)) None)
      go false u e = refl
      go true false e = rw e
      go true true e = rw e

pub answered-by-fields : (me : peers.Peer) → AnsweredByFields me
answered-by-fields me who a b la lb e l = decoded me who l a la ∙ ap (by_decoding me who l) e ∙ sym (decoded me who l b lb)

-- ---- puts that are sent, and values that are asked for
module _ (me who : peers.Peer) (l : Lent) (body : List ℕ) (w : length body ≤ most_body) (m : Message) (d : decode body ≡ Some m) where
  by-type : ltb most_kind m.kind ≡ false → deal_of me who body l ≡ by_request me who m l
  unfolding by_decoding
  by-type e = decoded me who l body w ∙ ap (by_decoding me who l) d ∙ rw e refl

  by-put : m.kind ≡ put_value → (r : Record) → m.held ≡ Some r → r.key ≡ m.key
      → deal_of me who body l
      ≡ by_verdict (echoed (offer_answer l.records m.key r.value) (put_value_reply m.key r.value)) (with_records l (offer_after l.records m.key r.value)) l
  unfolding verdict_of records_after put_verdict put_after
  by-put e r h q = by-type (ap (ltb most_kind) e) ∙ rw (e, h, same-yes r.key m.key q) refl

  by-get : m.kind ≡ get_value → key_fits m.key ≡ true → deal_of me who body l ≡ replied (get_value_reply l.contacts l.records m.key) (with_records l l.records)
  unfolding verdict_of records_after keyed
  by-get e f = by-type (ap (ltb most_kind) e) ∙ rw (e, f) refl

pub answered-by-verdict : (me : peers.Peer) → AnsweredByVerdict me
answered-by-verdict me who body l m w d h = by-type me who l body w m d (le-ltb most_kind m.kind h)

pub sent-as-typed : (me : peers.Peer) → SentAsTyped me
sent-as-typed me who body l m r w d e h q form =
    let k = l.records in
    by-put me who l body w m d e r h q
    ∙ sym (ap₂ (λ (a : Result ⊤ Refusal) (x : List ℕ). by_verdict (echoed a (put_value_reply m.key r.value)) (with_records l x) l) (put_is k m.key r.value form).0 (put_is k m.key r.value form).1)

record-held : (t k key u : List ℕ) → got k key ≡ Some u → (get_value_reply t k key).held ≡ Some (record { key = key; value = u })
unfolding get_value_reply
record-held t k key u g = let f = held_found k key u g in rw (f.2, f.3) refl

pub held-is-served : (me : peers.Peer) → HeldIsServed me
unfolding key_fits
held-is-served me who body l u m w d e form g room =
    let t = l.contacts in
    let k = l.records in
    let n = held-key k m.key u g form in
    let fits : key_fits m.key ≡ true = and_i (leb 1 (length m.key)) _ (le-leb 1 (length m.key) (omega (arith, key-least m.key n))) (le-leb (length m.key) most_key (key-most m.key n)) in
    let b = replied-back (get_value_reply t k m.key) (with_records l k) (length (frame (encode (get_value_reply t k m.key)))) (good-get t k m.key (key-most m.key n)) room refl in
    rw (by-get me who l body w m d e fits) (record {
      size = length (frame (encode (get_value_reply t k m.key)));
      told = refl;
      says = get_value_reply t k m.key;
      back = b;
      held = record-held t k m.key u g;
      shown = shows-record (get_value_reply t k m.key) (good-get t k m.key (key-most m.key n)).fits (record { key = m.key; value = u }) (record-held t k m.key u g);
    })

echo-held : (key value : List ℕ) → (put_value_reply key value).held ≡ Some (record { key = key; value = value })
unfolding put_value_reply
echo-held key value = refl

echo-short : (k key v : List ℕ) → put_answer k key v ≡ Ok tt → length (encode (put_value_reply key v)) ≤ most_echo
unfolding put_value_reply held_fits record_with
echo-short k key v t =
    let f = taken-fits k key v (sym (put_is k key v (taken-form k key v t)).0 ∙ t) in
    echo-most (put_value_reply key v) (omega arith) f.1 (record-fits key v f.1 f.2) refl refl

pub given-whole : (me : peers.Peer) → GivenWhole me
given-whole me = record { served = served; echoed = echo; echo = echo-short }
  where
    served : (who : peers.Peer) (body : List ℕ) (l : Lent) (m : Message) (v : List ℕ) → length body ≤ most_body → decode body ≡ Some m → m.kind ≡ get_value
        → least_reply ≤ length l.reply → put_answer l.records m.key v ≡ Ok tt
        → Serves (deal_of me who body (with_records l (put_into l.records m.key v))) l.reply m.key v
    served who body l m v w d e room t =
        let k = l.records in
        held-is-served me who body (with_records l (put_into k m.key v)) v m w d e (put-kept k m.key v (taken-form k m.key v t)) (taken-got k m.key v t) room

    echo : (who : peers.Peer) (body : List ℕ) (l : Lent) (m : Message) (r : Record) → length body ≤ most_body → decode body ≡ Some m → m.kind ≡ put_value
        → m.held ≡ Some r → r.key ≡ m.key → least_reply ≤ length l.reply → put_answer l.records m.key r.value ≡ Ok tt
        → Serves (deal_of me who body l) l.reply m.key r.value
    echo who body l m r w d e h q room t =
        let k = l.records in
        let form = taken-form k m.key r.value t in
        let says = put_value_reply m.key r.value in
        let o : offer_answer k m.key r.value ≡ (Ok tt) = sym (put_is k m.key r.value form).0 ∙ t in
        let g = good-put k m.key r.value o in
        rw (by-put me who l body w m d e r h q, o) (record {
          size = length (frame (encode says));
          told = refl;
          says = says;
          back = replied-back says (with_records l (offer_after k m.key r.value)) (length (frame (encode says))) g room refl;
          held = echo-held m.key r.value;
          shown = shows-record says g.fits (record { key = m.key; value = r.value }) (echo-held m.key r.value);
        })

pub refused-when-sent : RefusedWhenSent
refused-when-sent b k v plan echo e h = ap (λ (a : Result ⊤ Refusal). echoed a echo) (refused-before b [] k v plan e h).0
