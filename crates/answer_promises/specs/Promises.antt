-- What follows from the definitions of the answers, for every input. proofs/Promised.antt shows each.
use Rattle.std.specs.Prelude.{ℕ, ◌≤◌, ◌≡◌, true, List, length, take, drop}
use Rattle.limits.specs.Limits.{most_id, most_body, least_reply, most_kind}
use Rattle.refusal.specs.declared.Refusal.{Refusal}
use Rattle.refusal.specs.declared.Refusal.TheVariants.{BrokenRecipe}
use Rattle.recipe.specs.Recipe.{Bounds, recipe_within}
use Rattle.peer.specs.declared.Peer as peers
use Rattle.peer.specs.Addresses.{kept_of}
use Rattle.peer.specs.Peers.{id_fits, peer_of}
use Rattle.records.specs.Store.{is_key, in_form, judged, answer_of, put_answer, put_after}
use Rattle.records_history.specs.History.{got}
use Rattle.records_history.specs.Claims.{Outside}
use Rattle.message.specs.Message.{Record, Message, message_of, decode, encode, frame}
use Rattle.pieces.specs.Writable.{writable}
use Rattle.parts.specs.Parts.{is_view, positions_of, record_key_bytes, record_value_bytes}
use Rattle.entries.specs.Entries.{peer_entry}
use Rattle.replies.specs.Lent.{Lent, with_records}
use Rattle.message.specs.Kinds.{put_value, get_value}
use Rattle.replies.specs.Replies.{put_value_reply}
use Rattle.replies.specs.Verdicts.{Verdict, replies, refuses, echoed, Dealt, by_verdict}
use Rattle.answer.specs.Answers.{verdict_of, records_after, deal_of}
use Rattle.std.specs.Prelude.{Ok, Err, Some, Result, Option}

-- a request that is refused changes nothing
abbrev pub RefusedChangesNothing : Type 0
RefusedChangesNothing =
    (me who : peers.Peer) (body : List ℕ) (l : Lent) (r : Refusal) → (deal_of me who body l).told ≡ Err r → (deal_of me who body l).left ≡ l

-- a reply of n bytes stands in the buffer: the message that the verdict calls for, within the limits, with its prefix, which reads back as the same message;
-- "bytes after a reply stay". 15,111 is the largest reply body (RULES, Messages)
pub record ReadsBack (v : Verdict) (d : Dealt) (y : List ℕ) (n : ℕ) : Type 0 where
  pub says : Message
  pub verdict : v ≡ replies says
  pub fits : writable says ≡ true
  pub size : n ≡ length (frame (encode says))
  pub stands : take n d.left.reply ≡ frame (encode says)
  pub back : decode (encode says) ≡ Some says
  pub short : length (encode says) ≤ 15111
  pub rest : drop n d.left.reply ≡ drop n y

-- the room for the id in the code's type of peers
abbrev pub Roomed : peers.Peer → Type 0
Roomed p = length p.id ≡ most_id

abbrev pub RepliesReadBack : Type 0
RepliesReadBack =
    (me who : peers.Peer) → Roomed me → Roomed who → (body : List ℕ) (l : Lent) → least_reply ≤ length l.reply → (n : ℕ)
    → (deal_of me who body l).told ≡ Ok n → ReadsBack (verdict_of me who (message_of body) l) (deal_of me who body l) l.reply n

-- a request gets what its fields call for, refused or answered: the verdict's reply, and the records that it leaves
abbrev pub AnsweredByVerdict : peers.Peer → Type 0
AnsweredByVerdict me =
    (who : peers.Peer) (body : List ℕ) (l : Lent) (m : Message) → length body ≤ most_body → decode body ≡ Some m → m.kind ≤ most_kind
    → deal_of me who body l ≡ by_verdict (verdict_of me who m l) (with_records l (records_after m l.records)) l

-- answer, records and reply go by what a body says, not by how it is written: two bodies of the same fields get the same. So a message whose record comes in
-- several fields is answered, stored and echoed as the same message with its record in one
abbrev pub AnsweredByFields : peers.Peer → Type 0
AnsweredByFields me =
    (who : peers.Peer) (a b : List ℕ) → length a ≤ most_body → length b ≤ most_body → decode a ≡ decode b → (l : Lent) → deal_of me who a l ≡ deal_of me who b l

-- RULES, Recipes, "a local or remote put": a PUT_VALUE whose record has the message's key gets what the host's own put of that record is told, an echo where it
-- is taken, and leaves the same records
abbrev pub SentAsTyped : peers.Peer → Type 0
SentAsTyped me =
    (who : peers.Peer) (body : List ℕ) (l : Lent) (m : Message) (r : Record) → length body ≤ most_body → decode body ≡ Some m → m.kind ≡ put_value → m.held ≡ Some r
    → r.key ≡ m.key → in_form l.records ≡ true
    → deal_of me who body l
    ≡ by_verdict (echoed (put_answer l.records m.key r.value) (put_value_reply m.key r.value)) (with_records l (put_after l.records m.key r.value)) l

-- the reader's view of a body shows a record: that there is one, its key, and its value to the last byte
pub record ShowsRecord (body k v : List ℕ) : Type 0 where
  pub view : is_view body (positions_of body) ≡ true
  pub there : (positions_of body).held.there ≡ true
  pub key : record_key_bytes body (positions_of body) ≡ k
  pub value : record_value_bytes body (positions_of body) ≡ v

-- a reply that carries the value u under a key: it stands in the buffer and reads back with that record, which its view shows
pub record Serves (d : Dealt) (y key u : List ℕ) : Type 0 where
  pub size : ℕ
  pub told : d.told ≡ Ok size
  pub says : Message
  pub back : ReadsBack (replies says) d y size
  pub held : says.held ≡ Some (record { key = key; value = u })
  pub shown : ShowsRecord (encode says) key u

-- "Records already held .. are still served": a GET_VALUE for a key gets the value that is held under it, whatever the recipe rules say of that value
abbrev pub HeldIsServed : peers.Peer → Type 0
HeldIsServed me =
    (who : peers.Peer) (body : List ℕ) (l : Lent) (u : List ℕ) (m : Message) → length body ≤ most_body → decode body ≡ Some m → m.kind ≡ get_value
    → in_form l.records ≡ true → got l.records m.key ≡ Some u → least_reply ≤ length l.reply → Serves (deal_of me who body l) l.reply m.key u

-- request iii, "nobody may read it short": a value that a put takes, however long, is given whole. In the reply to every GET_VALUE for its key, once it is put; and
-- in the echo of a PUT_VALUE that brings it, which has at most 3,342 bytes. (By find: `TakenWhole`, crates/records_history.)
pub record GivenWhole (me : peers.Peer) : Type 0 where
  pub served : (who : peers.Peer) (body : List ℕ) (l : Lent) (m : Message) (v : List ℕ) → length body ≤ most_body → decode body ≡ Some m → m.kind ≡ get_value
      → least_reply ≤ length l.reply → put_answer l.records m.key v ≡ Ok tt
      → Serves (deal_of me who body (with_records l (put_after l.records m.key v))) l.reply m.key v
  pub echoed : (who : peers.Peer) (body : List ℕ) (l : Lent) (m : Message) (r : Record) → length body ≤ most_body → decode body ≡ Some m → m.kind ≡ put_value
      → m.held ≡ Some r → r.key ≡ m.key → least_reply ≤ length l.reply → put_answer l.records m.key r.value ≡ Ok tt
      → Serves (deal_of me who body l) l.reply m.key r.value
  pub echo : (k key v : List ℕ) → put_answer k key v ≡ Ok tt → length (encode (put_value_reply key v)) ≤ 3342

-- "Boxes not yet changed refuse the longer value with 9", "A box knowing only format 1 refuses 2 with 9", sent as typed: a PUT_VALUE gets what their store says to it
-- (`RefusedBefore`, crates/records_history)
abbrev pub RefusedWhenSent : Type 0
RefusedWhenSent =
    (b : Bounds) (k v : List ℕ) (store : Result (Option ℕ) Refusal) (echo : Message) → is_key k ≡ true → Outside b v
    → echoed (answer_of (judged (recipe_within b) k v store)) echo ≡ refuses BrokenRecipe

-- the entry for us or the requester has the id and the usable addresses that were handed in
abbrev pub EntryIsPeer : Type 0
EntryIsPeer =
    (id place addresses : List ℕ) → id_fits id ≡ true
    → ((peer_entry (peer_of id place addresses)).id ≡ id) × ((peer_entry (peer_of id place addresses)).addrs ≡ kept_of addresses)

-- an answer reads the contacts and leaves them: it is the sighting after it that writes them
abbrev pub ContactsStay : Type 0
ContactsStay = (me who : peers.Peer) (body : List ℕ) (l : Lent) → (deal_of me who body l).left.contacts ≡ l.contacts

-- the records stay in form
abbrev pub RecordsStayInForm : Type 0
RecordsStayInForm = (me who : peers.Peer) (body : List ℕ) (l : Lent) → in_form l.records ≡ true → in_form (deal_of me who body l).left.records ≡ true
