-- What a request does to records and reply buffer: nothing where it is refused, and else what its offer does to the store.
use Prim.Native.Nat.{ℕ}
use mathlib.Core.Path.{◌≡◌, refl, sym, ◌∙◌, subst}
use mathlib.Core.Bool.{Bool, true, false, cond}
use mathlib.Core.List.{List, [], ◌∷◌}
use native.Mathlib.Omega.{arith}
use lib.ListN.{length}
use lib.Seq.{length-sets}
use lib.Dec.{eqb}
use Rattle.octets.specs.Octets.{same}
use Rattle.octets.proofs.Bools.{cond_ind}
use Rattle.refusal.specs.declared.Refusal.{Refusal}
use Rattle.peer.specs.declared.Peer.{Peer}
use Rattle.records.specs.Store.{in_form, plan_of, answer_of, after_of, offer_answer, offer_after}
use Rattle.records_history.specs.History.{Offer, offered, after}
use Rattle.records_history.proofs.Stays.{put_is}
use Rattle.message.specs.Message.{Record, Message, message_of, well_message, decode, encode, frame}
use Rattle.message.specs.View.{reading_of}
use Rattle.message.specs.Kinds.{put_value}
use Rattle.replies.specs.Lent.{Lent, with_records}
use Rattle.replies.specs.Verdicts.{Verdict, replies, refuses, echoed, put_verdict, put_after, Dealt, by_verdict}
use Rattle.answer.specs.Answers.{verdict_of, records_after, by_reading, deal_of}
use Rattle.demands.specs.Box.{offer_by}
use Rattle.std.specs.Prelude.{Ok, Err, Some, None, Result, Option}
use Rattle.message.specs.declared.Fields.{Fields}

-- what a body decodes to
pub decoded : (body : List ℕ) (m : Message) → decode body ≡ Some m → message_of body ≡ m
unfolding decode
decoded body m e = go (well_message body) e
  where
    go : (b : Bool) → cond b (Some (message_of body)) None ≡ Some m → message_of body ≡ m
    go true q = cc
    go false q = absurd (let z : ◌≡◌ {A = ℕ} 0 1 = cc in omega arith)

-- what a request comes to
pub deal-is : (me who : Peer) (body : List ℕ) (l : Lent) → deal_of me who body l ≡ by_reading (reading_of body) me who (message_of body) l
unfolding deal_of
deal-is me who body l = refl

-- ---- a refused put leaves the store
no-refusal : {X : Type 0} {m : Message} {r : Refusal} → replies m ≡ refuses r → X
no-refusal e = absurd (let z : ◌≡◌ {A = ℕ} 0 1 = cc in omega arith)

plan-refused : (p : Result (Option ℕ) Refusal) (k key v : List ℕ) (m : Message) (r : Refusal) → echoed (answer_of p) m ≡ refuses r → after_of k key v p ≡ k
unfolding answer_of after_of
plan-refused (Ok (Some i)) k key v m r e = no-refusal e
plan-refused (Ok None) k key v m r e = refl
plan-refused (Err q) k key v m r e = refl

echo-refused : (b : Bool) (k key v : List ℕ) (m : Message) (q r : Refusal) → cond b (echoed (offer_answer k key v) m) (refuses q) ≡ refuses r
    → cond b (offer_after k key v) k ≡ k
unfolding offer_answer offer_after
echo-refused true k key v m q r e = plan-refused (plan_of k key v) k key v m r e
echo-refused false k key v m q r e = refl

put_refused : (key : List ℕ) (h : Option Record) (k : List ℕ) (r : Refusal) → put_verdict key h k ≡ refuses r → put_after key h k ≡ k
unfolding put_verdict put_after
put_refused key None k r e = refl
put_refused key (Some x) k r e = echo-refused (same x.key key) k key x.value _ _ r e

kind-refused : (b : Bool) (v w : Verdict) (k after : List ℕ) (r : Refusal) → (v ≡ refuses r → after ≡ k) → cond b v w ≡ refuses r → cond b after k ≡ k
kind-refused true v w k after r h e = h e
kind-refused false v w k after r h e = refl

pub verdict-refused : (me who : Peer) (m : Message) (l : Lent) (r : Refusal) → verdict_of me who m l ≡ refuses r → records_after m l.records ≡ l.records
unfolding verdict_of records_after
verdict-refused me who m l r e =
    let k = l.records in kind-refused (eqb m.kind put_value) _ _ k (put_after m.key m.held k) r (put_refused m.key m.held k r) e

-- ---- the records afterwards are what the offer makes of them
put-offer : (k key v : List ℕ) → in_form k ≡ true → (b c : Bool)
    → cond b (cond c (offer_after k key v) k) k ≡ after k (cond b (cond c (record { key = key; value = v } ∷ []) []) [])
unfolding after offered
put-offer k key v f true true = sym (put_is k key v f).1
put-offer k key v f true false = refl
put-offer k key v f false c = refl

records-offer : (f : _) (m : Message) (h : Option Record) (k : List ℕ) → in_form k ≡ true
    → cond (eqb m.kind put_value) (put_after m.key h k) k ≡ after k (offer_by (Ok f) m h)
unfolding put_after after
records-offer f m None k g = cond_ind (λ (x : List ℕ). x ≡ k) (eqb m.kind put_value) k k (λ e. refl) (λ e. refl)
records-offer f m (Some r) k g = put-offer k m.key r.value g (eqb m.kind put_value) (same r.key m.key)

after-form : (f : _) (m : Message) (k : List ℕ) → in_form k ≡ true → records_after m k ≡ after k (offer_by (Ok f) m m.held)
unfolding records_after
after-form f m k g = records-offer f m m.held k g

-- ---- what a request leaves, by what its verdict is
pub record Leaves (l : Lent) (os : List Offer) (d : Dealt) : Type 0 where
  pub refused : (r : Refusal) → d.told ≡ Err r → d.left ≡ l
  pub contacts : d.left.contacts ≡ l.contacts
  pub offers : in_form l.records ≡ true → d.left.records ≡ after l.records os
  pub room : length d.left.reply ≡ length l.reply

verdict-leaves : (v : Verdict) (l : Lent) (next : List ℕ) (os : List Offer) → (in_form l.records ≡ true → next ≡ after l.records os)
    → ((r : Refusal) → v ≡ refuses r → next ≡ l.records) → Leaves l os (by_verdict v (with_records l next) l)
verdict-leaves (replies m) l next os h g =
    record {
      refused = λ r e. absurd (let z : ◌≡◌ {A = ℕ} 0 1 = cc in omega arith);
      contacts = refl;
      offers = h;
      room = length-sets l.reply 0 (frame (encode m));
    }
verdict-leaves (refuses r) l next os h g = record { refused = λ q e. refl; contacts = refl; offers = λ f. sym (g r refl) ∙ h f; room = refl }

reading-leaves : (r : Result Fields Refusal) (me who : Peer) (m : Message) (l : Lent) → Leaves l (offer_by r m m.held) (by_reading r me who m l)
unfolding after
reading-leaves (Err r) me who m l = record { refused = λ q e. refl; contacts = refl; offers = λ f. refl; room = refl }
reading-leaves (Ok f) me who m l =
    verdict-leaves (verdict_of me who m l) l (records_after m l.records) (offer_by (Ok f) m m.held) (after-form f m l.records) (verdict-refused me who m l)

pub deal-leaves : (me who : Peer) (body : List ℕ) (l : Lent) → Leaves l (offer_by (reading_of body) (message_of body) (message_of body).held) (deal_of me who body l)
deal-leaves me who body l =
    subst (Leaves l (offer_by (reading_of body) (message_of body) (message_of body).held)) (sym (deal-is me who body l))
    (reading-leaves (reading_of body) me who (message_of body) l)
