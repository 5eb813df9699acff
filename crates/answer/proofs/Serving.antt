-- From what a request says to its answer: the reader's positions, and the type. Assumes nothing.
use Prim.Native.Nat.{ℕ, ◌≤◌}
use mathlib.Core.Path.{◌≡◌, refl, sym, ap, ◌∙◌}
use mathlib.Core.Bool.{true, false}
use mathlib.Core.List.{List}
use lib.ListN.{length}
use lib.Dec.{eqb}
use borrow.Author.Tests.{ne_eqb}
use Rattle.octets.specs.Octets.{part, same}
use Rattle.refusal.specs.declared.Refusal.{Refusal}
use Rattle.refusal.specs.declared.Refusal.TheVariants.{BreaksRules, Providers}
use Rattle.peer.specs.declared.Peer as peers
use Rattle.wire.specs.Items.{cut}
use Rattle.message.specs.Message.{Message, message_of}
use Rattle.pieces.specs.Writable.{record_with}
use Rattle.message.specs.View.{fields_of, held_meant, reading_of}
use Rattle.message.specs.declared.Fields.{Fields}
use Rattle.message.proofs.Meaning.{FieldsIn, key-meant, kind-meant, held-meant}
use Rattle.message.proofs.Views.{read_whole}
use Rattle.replies.specs.Replies.{find_node_reply, get_value_reply, ping_reply}
use Rattle.replies.specs.Lent.{Lent, with_records}
use Rattle.replies.specs.Verdicts.{Verdict, replies, refuses, keyed, put_verdict, put_after, by_verdict, put_dealt, Gives, Framed, Told}
use Rattle.answer.specs.Answers.{verdict_of, records_after, by_request, by_reading, deal_of}
use Rattle.std.specs.Prelude.{Ok, Err, Some, None, Result}

-- ---- the request that was read
module _ (s : List ℕ) (m : Fields) (e : reading_of s ≡ Ok m) where
  is : m ≡ fields_of s
  is = (read_whole s m e).is

  pub parts-inside : FieldsIn (length s) m
  parts-inside = (read_whole s m e).lies

  pub key-inside : (m.key.at ≤ m.key.end) × (m.key.end ≤ length s)
  key-inside = (parts-inside.key.ordered, parts-inside.key.ends)

  pub record-key-inside : (m.held.key.at ≤ m.held.key.end) × (m.held.key.end ≤ length s)
  record-key-inside = (parts-inside.record-key.ordered, parts-inside.record-key.ends)

  pub value-inside : (m.held.value.at ≤ m.held.value.end) × (m.held.value.end ≤ length s)
  value-inside = (parts-inside.record-value.ordered, parts-inside.record-value.ends)

  pub key-is : (key : List ℕ) → key ≡ part s m.key.at m.key.end → key ≡ (message_of s).key
  key-is key q = q ∙ ap (λ (f : Fields). cut s f.key) is ∙ key-meant s

  pub kind-is : m.kind ≡ (message_of s).kind
  kind-is = ap (λ (f : Fields). f.kind) is ∙ kind-meant s

  held-is : held_meant s m.held ≡ (message_of s).held
  held-is = ap (λ (f : Fields). held_meant s f.held) is ∙ held-meant s (read_whole s m e).well

  pub held-there : m.held.there ≡ true → (rkey value : List ℕ) → rkey ≡ part s m.held.key.at m.held.key.end → value ≡ part s m.held.value.at m.held.value.end
      → (message_of s).held ≡ Some (record_with rkey value)
  unfolding held_meant record_with
  held-there y rkey value er ev = sym held-is ∙ rw (y, er, ev)

  pub held-away : m.held.there ≡ false → (message_of s).held ≡ None
  unfolding held_meant
  held-away n = sym held-is ∙ rw n

  -- PUT_VALUE, with and without a record
  pub put-with : (l : Lent) → m.held.there ≡ true → (key rkey value : List ℕ) → key ≡ part s m.key.at m.key.end → rkey ≡ part s m.held.key.at m.held.key.end → value ≡ part s m.held.value.at m.held.value.end
      → (r : Result ℕ Refusal) (k₁ y₁ : List ℕ) → Gives (put_dealt key (Some (record_with rkey value)) l) r k₁ y₁
      → Gives (put_dealt (message_of s).key (message_of s).held l) r k₁ y₁
  put-with l t key rkey value ek er ev r k₁ y₁ g = rw (held-there t rkey value er ev, ← key-is key ek) g

  pub put-without : (l : Lent) → m.held.there ≡ false
      → Gives (put_dealt (message_of s).key (message_of s).held l) (Err BreaksRules) l.records l.reply
  unfolding put_verdict put_after
  put-without l n = rw (held-away n) (record { told = refl; records = refl; reply = refl })

-- ---- by the type
told-gives : (v : Verdict) (l : Lent) (r : Result ℕ Refusal) (y₁ : List ℕ) → Told v l.reply y₁ r → Gives (by_verdict v (with_records l l.records) l) r l.records y₁
told-gives (replies m) l r y₁ t = record { told = t.answer; records = refl; reply = t.same }
told-gives (refuses f) l r y₁ t = record { told = t.answer; records = refl; reply = t.same }

module _ (me who : peers.Peer) (m : Message) (l : Lent) where
  abbrev G : Result ℕ Refusal → List ℕ → List ℕ → Type 0
  G r k₁ y₁ = Gives (by_request me who m l) r k₁ y₁

  pub serve-put : m.kind ≡ 0 → (r : Result ℕ Refusal) (k₁ y₁ : List ℕ) → Gives (put_dealt m.key m.held l) r k₁ y₁ → G r k₁ y₁
  unfolding verdict_of records_after
  serve-put e r k₁ y₁ g = rw e g

  pub serve-get : m.kind ≡ 1 → (key : List ℕ) → key ≡ m.key → (r : Result ℕ Refusal) (y₁ : List ℕ) → Told (keyed key (get_value_reply l.contacts l.records key)) l.reply y₁ r → G r l.records y₁
  unfolding verdict_of records_after
  serve-get e key ek r y₁ g = rw e (rw ek at (told-gives (keyed key (get_value_reply l.contacts l.records key)) l r y₁ g))

  pub serve-find : m.kind ≡ 4 → (key : List ℕ) → key ≡ m.key → (r : Result ℕ Refusal) (y₁ : List ℕ) → Told (keyed key (find_node_reply me who l.contacts key)) l.reply y₁ r → G r l.records y₁
  unfolding verdict_of records_after
  serve-find e key ek r y₁ g = rw e (rw ek at (told-gives (keyed key (find_node_reply me who l.contacts key)) l r y₁ g))

  pub serve-ping : m.kind ≡ 5 → (r : ℕ) (y₁ : List ℕ) → Framed ping_reply l.reply y₁ r → G (Ok r) l.records y₁
  unfolding verdict_of records_after
  serve-ping e r y₁ f = rw e (record { told = ap Ok f.size; records = refl; reply = f.same })

  pub serve-other : (m.kind ≡ 0 → ⊥) → (m.kind ≡ 1 → ⊥) → (m.kind ≡ 4 → ⊥) → (m.kind ≡ 5 → ⊥) → G (Err Providers) l.records l.reply
  unfolding verdict_of records_after
  serve-other a b c d = rw (no 0 a, no 1 b, no 4 c, no 5 d) (record { told = refl; records = refl; reply = refl })
    where
      no : (n : ℕ) → (m.kind ≡ n → ⊥) → eqb m.kind n ≡ false
      no n h = ne_eqb m.kind n h

-- ---- the reader's answers
module _ (me who : peers.Peer) (s : List ℕ) (l : Lent) (a : Result Fields Refusal) (e : a ≡ reading_of s) where
  pub deal-refused : (r : Refusal) → a ≡ Err r → Gives (deal_of me who s l) (Err r) l.records l.reply
  unfolding deal_of
  deal-refused r q = rw (← e, q) (record { told = refl; records = refl; reply = refl })

  pub deal-whole : (m : Fields) → a ≡ Ok m → (r : Result ℕ Refusal) (k₁ y₁ : List ℕ) → Gives (by_request me who (message_of s) l) r k₁ y₁ → Gives (deal_of me who s l) r k₁ y₁
  unfolding deal_of
  deal-whole m q r k₁ y₁ g = rw (← e, q) g

-- ---- an answer leaves the contacts
verdict-contacts : (v : Verdict) (l : Lent) (k : List ℕ) → (by_verdict v (with_records l k) l).left.contacts ≡ l.contacts
verdict-contacts (replies m) l k = refl
verdict-contacts (refuses r) l k = refl

reading-contacts : (a : Result Fields Refusal) (me who : peers.Peer) (m : Message) (l : Lent) → (by_reading a me who m l).left.contacts ≡ l.contacts
reading-contacts (Err r) me who m l = refl
reading-contacts (Ok f) me who m l = verdict-contacts (verdict_of me who m l) l (records_after m l.records)

pub deal-contacts : (me who : peers.Peer) (body : List ℕ) (l : Lent) → (deal_of me who body l).left.contacts ≡ l.contacts
unfolding deal_of
deal-contacts me who body l = reading-contacts (reading_of body) me who (message_of body) l
